-- `crop::words_refusal` meets its contract: the reasons of the image first, and then the room for a search.
use Rattle.std.specs.Prelude.{ℕ, false, cond, List, ◌≡◌, refl}
use Rattle.std.proofs.Common.{sym, ap, ◌∙◌}
use Rattle.bit_matrix.specs.declared.Shape.{Shape}
use Rattle.bit_matrix.specs.Shape.{shape_of, size}
use Rattle.crop_sizes.specs.Refusals.{number_some, carried}
use Rattle.crop.specs.Crop.{no_room, words_refusal_of, words_refusal}
use Rattle.crop.specs.CropClauses.{or_six}
use Rattle.crop.specs.CropLaws.{six_kept, six_next, words_six}
use Rattle.crop.proofs.words_refusal.Goals as goal

module _ (words : List ℕ) (w h marks records : ℕ) {answer : ℕ} (checked : answer ≡ words_refusal_of words w h false) where
  six_is : or_six answer (no_room (size (shape_of w h)) marks records) ≡ words_refusal words w h marks records
  six_is = ap (λ (n : ℕ). or_six n (no_room (size (shape_of w h)) marks records)) checked ∙ sym (words_six words w h _)

  bad_image : (answer ≡ 0 → ⊥) → answer ≡ words_refusal words w h marks records
  bad_image some = six_kept _ some ∙ six_is

  onward : {shape : Shape} {r : ℕ} → answer ≡ 0 → shape ≡ shape_of w h → r ≡ cond (no_room (size shape) marks records) 6 0
      → r ≡ words_refusal words w h marks records
  onward zero is room = six_next _ zero (room ∙ ap (λ (s : Shape). cond (no_room (size s) marks records) 6 0) is) ∙ six_is

pub returns-in_err-shape-clause-answer : goal.returns-in_err-shape-clause-answer
returns-in_err-shape-clause-answer c =
    carried c.from_residual.result c.in_err-shape.field-0.0 c.from_residual.ensures.1
    ∙ bad_image c.args.words.now c.args.width c.args.height c.args.marks_len c.args.records_len c.in_err-shape.ensures.answer
    (number_some c.in_err-shape.field-0.0)

pub returns-clause-answer : goal.returns-clause-answer
returns-clause-answer c =
    onward c.args.words.now c.args.width c.args.height c.args.marks_len c.args.records_len c.in_ok-shape.ensures.answer refl
    c.in_ok-shape.ensures.shape c.search_room.ensures.answer
