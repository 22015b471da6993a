-- `step_exports::guards::is_limited` meets its contract.
use Rattle.std.specs.Prelude.{false, Result, Ok, Err, ◌≡◌}
use Rattle.std.specs.Result.{is_ok}
use Rattle.std.proofs.Common.{arith, sym, ◌∙◌}
use Rattle.bit_matrix.specs.declared.Shape.{Shape}
use Rattle.bit_matrix.specs.Shape.{row_words}
use Rattle.bit_matrix.specs.ShapeClauses.{Limits}
use Rattle.crop_sizes.specs.declared.Refusal.{Refusal}
use Rattle.crop_sizes.specs.ChainLaws.{chain}
use Rattle.crop_sizes.specs.Refusals.{answer_of, number_some}
use Rattle.crop_sizes.specs.Sizes.{least_side, image_refusal}
use Rattle.crop_sizes.specs.SizesLaws.{image_within}
use Rattle.step_exports.specs.Steps.{Decides}
use Rattle.step_exports.proofs.Guarding.{decides_true, decides_false}
use Rattle.step_exports.proofs.guards.is_limited.Goals as goal

accepted : {shape : Shape} → Limits shape → 0 ≡ image_refusal least_side shape 0 0 false false
unfolding image_refusal
accepted limits = search chain depth 9

limited : (shape : Shape) (r : Result (Unit {0}) Refusal) → shape.row_words ≡ row_words shape.width
    → answer_of r ≡ image_refusal least_side shape 0 0 false false → Decides (is_ok r) (Limits shape)
limited shape (Ok done) rows is = decides_true (image_within least_side (omega arith) shape 0 0 false false rows (sym is)).0
limited shape (Err refusal) rows is = decides_false λ limits. number_some refusal (is ∙ sym (accepted limits))

pub returns : goal.returns
returns c = rw c.is_ok.ensures.value (limited c.args.shape c.size_refusal.result c.requires c.size_refusal.ensures)
