-- What the clauses of functions name: a file that can be unpacked. Assumes nothing.
use Rattle.std.specs.Prelude.{ℕ, false, List, ◌≡◌, length}
use Rattle.bit_matrix.specs.declared.Shape.{Shape}
use Rattle.bit_matrix.specs.ShapeClauses.{Limits}
use Rattle.crop_sizes.specs.Sizes.{file_length}
use Rattle.crop_padding.specs.Padding.{file_padded}

-- what holds of a file with an image of this shape that is not refused
pub record FileAccepted (shape : Shape) (file : List ℕ) : Type 0 where
  pub limits : Limits shape
  pub long : length file ≡ file_length shape.width shape.height
  pub clean : file_padded file shape.width shape.height ≡ false
