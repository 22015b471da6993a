-- What the clauses of functions name: the limits of a shape, when words and marks are an image of it, and when a pixel lies inside. Assumes nothing.
use Rattle.std.specs.Prelude.{ℕ, ◌≤◌, ◌<◌, List, ◌≡◌, length}
use Rattle.bit_matrix.specs.declared.Shape.{Shape}
use Rattle.bit_matrix.specs.Shape.{row_words, size}

-- the shape of an image that is not refused; no entry takes a side below the least one here
pub record Limits (shape : Shape) : Type 0 where
  pub rows : shape.row_words ≡ row_words shape.width
  pub width_least : 33 ≤ shape.width
  pub width_most : shape.width ≤ 2048
  pub height_least : 33 ≤ shape.height
  pub height_most : shape.height ≤ 2048
  pub words_most : size shape ≤ 8000

-- words and marks are an image of this shape, within the limits
pub record Image (shape : Shape) (words marks : List ℕ) : Type 0 where
  pub limits : Limits shape
  pub stored : length words ≡ size shape
  pub sized : length marks ≡ length words

-- column x of row y lies inside the image
pub record Inside (shape : Shape) (x y : ℕ) : Type 0 where
  pub column : x < shape.width
  pub row : y < shape.height
