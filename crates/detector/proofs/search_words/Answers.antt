-- `detector::search_words` meets its contract: one lemma for each return.
use Rattle.std.specs.Prelude.{ℕ, ◌≤◌, Bool, List, ◌≡◌, refl, length}
use Rattle.std.proofs.Common.{sym, ap, ◌∙◌}
use Rattle.bit_matrix.specs.declared.Shape.{Shape}
use Rattle.bit_matrix.specs.Shape.{shape_of}
use Rattle.bit_matrix.specs.ShapeClauses.{Image}
use Rattle.crop_sizes.specs.Refusals.{number_some}
use Rattle.crop.specs.Crop.{words_refusal}
use Rattle.crop.specs.CropLaws.{is_refused, is_accepted, words_accepted}
use Rattle.detector.specs.Detector.{Run, run, refused_report, accepted_run, words_run}
use Rattle.detector.specs.declared.Report.{Report}
use Rattle.detector.proofs.search_words.Goals as goal

module _ (words : List ℕ) (w h : ℕ) (records marks : List ℕ) (ellipse : Bool) {number : ℕ}
    (checked : number ≡ words_refusal words w h (length marks) (length records)) where
  words_refused : {r : Report} → (number ≡ 0 → ⊥) → r ≡ refused_report number → run r records marks ≡ words_run words w h records marks ellipse
  unfolding words_run
  words_refused some made =
      ap (λ (x : Report). run x records marks) made ∙ ap (λ (n : ℕ). run (refused_report n) records marks) checked ∙ is_refused _ _ λ e. some (checked ∙ e)

  module _ (none : number ≡ 0) {shape : Shape} (is : shape ≡ shape_of w h) where
    ready : Image shape words marks × (40 ≤ length records)
    ready =
        let ok = words_accepted words w h marks records (sym checked ∙ none) in
        (rw is ok.image, ok.room)

    words_searched : {left : Run} → left ≡ accepted_run shape words records ellipse → left ≡ words_run words w h records marks ellipse
    unfolding words_run
    words_searched searched = searched ∙ ap (λ (s : Shape). accepted_run s words records ellipse) is ∙ is_accepted _ _ (sym checked ∙ none)

pub search_accepted-requires : goal.search_accepted-requires
search_accepted-requires c =
    ready c.args.words.now c.args.width c.args.height c.args.records.now c.args.marks.now c.args.ellipse c.in-Ok.ensures.answer refl
    c.in-Ok.ensures.shape

pub returns-in-Ok : goal.returns-in-Ok
returns-in-Ok c =
    words_searched c.args.words.now c.args.width c.args.height c.args.records.now c.args.marks.now c.args.ellipse c.in-Ok.ensures.answer refl
    c.in-Ok.ensures.shape c.search_accepted.ensures

pub returns-in-Err : goal.returns-in-Err
returns-in-Err c =
    words_refused c.args.words.now c.args.width c.args.height c.args.records.now c.args.marks.now c.args.ellipse c.in-Err.ensures.answer
    (number_some c.in-Err.refusal) c.into.ensures
