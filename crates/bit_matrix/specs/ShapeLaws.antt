-- An image stays one while its marks keep their number. Assumes nothing.
use Rattle.std.specs.Prelude.{List, ◌≡◌, ℕ, length}
use Rattle.std.proofs.Common.{◌∙◌}
use Rattle.bit_matrix.specs.declared.Shape.{Shape}
use Rattle.bit_matrix.specs.ShapeClauses.{Image}

pub image_kept : {shape : Shape} {words marks marks' : List ℕ} → Image shape words marks → length marks' ≡ length marks → Image shape words marks'
image_kept image same = record { limits = image.limits; stored = image.stored; sized = same ∙ image.sized }
