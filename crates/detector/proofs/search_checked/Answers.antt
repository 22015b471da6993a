-- `detector::search_checked` meets its contract: one lemma for each return.
use Rattle.std.specs.Prelude.{ℕ, ◌≤◌, Bool, ◌||◌, List, Result, Ok, ◌≡◌, refl, length}
use Rattle.std.proofs.Common.{sym, ap, ap₂, ◌∙◌}
use Rattle.bit_matrix.specs.declared.Shape.{Shape}
use Rattle.bit_matrix.specs.Shape.{size}
use Rattle.bit_matrix.specs.ShapeClauses.{Image}
use Rattle.crop_sizes.specs.declared.Refusal.{Refusal}
use Rattle.crop_sizes.specs.Refusals.{number_some}
use Rattle.crop_sizes.specs.Sizes.{misfit}
use Rattle.crop_rows.specs.Unpack.{unpacked}
use Rattle.crop_rows.specs.UnpackClauses.{FileAccepted}
use Rattle.crop_rows.specs.UnpackLaws.{length_unpacked}
use Rattle.crop.specs.Crop.{file_shape, image, no_room, file_refusal}
use Rattle.crop.specs.CropClauses.{Checks, or_lent, FileReady}
use Rattle.crop.specs.CropLaws.{is_refused, is_accepted, file_refusal_by, checked_shape, file_ready_by}
use Rattle.detector.specs.Detector.{Run, run, refused_report, accepted_run, filed, file_run}
use Rattle.detector.specs.declared.Report.{Report}
use Rattle.detector.proofs.search_checked.Goals as goal

module _ (file words records marks : List ℕ) (ellipse : Bool) {c : Result Shape Refusal} (checks : Checks file c) {number : ℕ}
    (is : number ≡ or_lent c (λ s. misfit (length words) (size s) || no_room (size s) (length marks) (length records))) where
  number_is : number ≡ file_refusal file (length words) (length marks) (length records)
  number_is = file_refusal_by checks (length words) (length marks) (length records) is

  file_refused : {r : Report} → (number ≡ 0 → ⊥) → r ≡ refused_report number → filed words (run r records marks) ≡ file_run file words records marks ellipse
  unfolding file_run
  file_refused some made =
      ap (λ (x : Report). filed words (run x records marks)) made ∙ ap (λ (n : ℕ). filed words (run (refused_report n) records marks)) number_is
      ∙ is_refused _ _ λ e. some (number_is ∙ e)

  module _ (none : number ≡ 0) {shape : Shape} (ok : c ≡ Ok shape) where
    ready : FileReady shape file words marks records
    ready = file_ready_by checks ok words marks records is none

    accepted : FileAccepted shape file × (length words ≡ size shape)
    accepted = (ready.accepted, ready.image.stored)

    module _ {words' : List ℕ} (stored : words' ≡ unpacked file shape) where
      file_image : Image shape words' marks × (40 ≤ length records)
      file_image =
          let long : length words' ≡ size shape = ap length stored ∙ length_unpacked file shape in
          (record { limits = ready.image.limits; stored = long; sized = ready.image.sized ∙ ready.image.stored ∙ sym long }, ready.room)

      file_searched : {left : Run} → left ≡ accepted_run shape words' records ellipse → filed words' left ≡ file_run file words records marks ellipse
      unfolding file_run
      file_searched searched =
          let shape_is : shape ≡ file_shape file = checked_shape checks ok in
          let words_are : words' ≡ image file = stored ∙ ap (unpacked file) shape_is in
          ap₂ filed words_are (searched ∙ ap₂ (λ (s : Shape) (l : List ℕ). accepted_run s l records ellipse) shape_is words_are)
          ∙ is_accepted _ _ (sym number_is ∙ none)

pub unpack_rows-requires : goal.unpack_rows-requires
unpack_rows-requires c =
    accepted c.args.file.now c.args.words.now c.args.records.now c.args.marks.now c.args.ellipse c.requires c.in-Ok.ensures.answer refl
    c.in-Ok.ensures.shape

pub search_accepted-requires : goal.search_accepted-requires
search_accepted-requires c =
    file_image c.args.file.now c.args.words.now c.args.records.now c.args.marks.now c.args.ellipse c.requires c.in-Ok.ensures.answer refl
    c.in-Ok.ensures.shape c.unpack_rows.ensures

pub returns-in-Ok : goal.returns-in-Ok
returns-in-Ok c =
    file_searched c.args.file.now c.args.words.now c.args.records.now c.args.marks.now c.args.ellipse c.requires c.in-Ok.ensures.answer refl
    c.in-Ok.ensures.shape c.unpack_rows.ensures c.search_accepted.ensures

pub returns-in-Err : goal.returns-in-Err
returns-in-Err c =
    file_refused c.args.file.now c.args.words.now c.args.records.now c.args.marks.now c.args.ellipse c.requires c.in-Err.ensures.answer
    (number_some c.in-Err.refusal) c.into.ensures
