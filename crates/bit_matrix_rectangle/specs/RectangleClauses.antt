-- What the clauses of functions name: an accepted image in words, rows outside of which all is white, the word of a column of words, and a rectangle
-- inside an image. Assumes nothing.
use Rattle.std.specs.Prelude.{ℕ, ◌+◌, ◌*◌, ◌≤◌, ◌<◌, Bool, false, not, List, ◌≡◌, eqb, length, get_or}
use Rattle.reads.specs.Bits.{test_bit}
use Rattle.bit_matrix.specs.declared.Shape.{Shape}
use Rattle.bit_matrix.specs.Shape.{size}
use Rattle.bit_matrix.specs.ShapeClauses.{Limits}
use Rattle.crop_padding.specs.Padding.{words_padded}
use Rattle.bit_matrix_rectangle.specs.declared.Rectangle.{Rectangle}
use Rattle.bit_matrix_rectangle.specs.Rectangle.{black_at, black_column}

-- words are an image of this shape, within the limits, and no padding bit is 1
pub record ImageAccepted (shape : Shape) (words : List ℕ) : Type 0 where
  pub limits : Limits shape
  pub stored : length words ≡ size shape
  pub clean : words_padded words shape.width shape.height ≡ false

-- word i is not 0
abbrev pub is_set : List ℕ → ℕ → Bool
is_set words i = not (eqb (get_or words i 0) 0)

-- rows of the image, in order, before and after which all is white, padding too
pub record Rows (shape : Shape) (words : List ℕ) (top bottom : ℕ) : Type 0 where
  pub order : top ≤ bottom
  pub most : bottom < shape.height
  pub above : (x y : ℕ) → x < 64 * shape.row_words → y < top → black_at shape words x y ≡ false
  pub below : (x y : ℕ) → x < 64 * shape.row_words → bottom < y → y < shape.height → black_at shape words x y ≡ false

-- bit k of v tells whether column 64 x + k has a black pixel
pub record ColumnWord (shape : Shape) (words : List ℕ) (x v : ℕ) : Type 0 where
  pub bits : (k : ℕ) → k < 64 → test_bit v k ≡ black_column (black_at shape words) shape.height (x * 64 + k)

-- a rectangle with a pixel, inside w columns and h rows
pub record Within (w h : ℕ) (r : Rectangle) : Type 0 where
  pub wide : 1 ≤ r.width
  pub high : 1 ≤ r.height
  pub columns : r.left + r.width ≤ w
  pub rows : r.top + r.height ≤ h
