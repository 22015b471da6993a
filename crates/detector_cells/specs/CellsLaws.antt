-- What holds of the cells: each is read inside the image, a row of them has 30 bits, the answer is 10 exactly when no pixel is black, and with 0 they are
-- a function of the pixels alone. Assumes nothing.
use Rattle.std.specs.Prelude.{ℕ, ◌^◌, ◌<◌, Bool, false, List, ◌↔◌, Option, Some, None, ◌≡◌}
use Rattle.std.proofs.Common.{arith, sym, ◌∙◌}
use Rattle.std.proofs.Math.Path.{refl, ap}
use Rattle.bit_matrix.specs.declared.Shape.{Shape}
use Rattle.crop_padding.specs.NumberLaws.{number_lt, number_same}
use Rattle.crop_rows.specs.FirstsLaws.{firsts_same}
use Rattle.detector_points.specs.Orientation.{matrix_width, matrix_height, pixel_column, pixel_row}
use Rattle.bit_matrix_rectangle.specs.declared.Rectangle.{Rectangle}
use Rattle.bit_matrix_rectangle.specs.Rectangle.{black_at, if_black, enclosing_rectangle}
use Rattle.bit_matrix_rectangle.specs.RectangleClauses.{Within}
use Rattle.bit_matrix_rectangle.specs.RectangleLaws.{blank_when_white, rectangle_within, rectangle_same}
use Rattle.detector_cells.specs.Cells.{cell, cell_word, cells_of, CellsRun, cells_run, read_bits}

-- every cell, of a rectangle inside w columns and h rows
pub cell_inside : {w h : ℕ} (r : Rectangle) → Within w h r → (x y : ℕ) → (pixel_column x y r.left r.width < w) × (pixel_row y r.top r.height < h)
cell_inside r within x y = (omega (arith, within), omega (arith, within))

-- so every cell that is read
pub read_inside : (black : ℕ → ℕ → Bool) (w h : ℕ) {r : Rectangle} → Some r ≡ enclosing_rectangle black w h → (x y : ℕ)
    → (pixel_column x y r.left r.width < w) × (pixel_row y r.top r.height < h)
read_inside black w h {r} is = cell_inside r (rectangle_within black w h is)

-- bits 30 and 31 are zero
pub cells_low : (black : ℕ → ℕ → Bool) (r : Rectangle) (y : ℕ) → cell_word black r y < 2 ^ 30
cells_low black r y = number_lt _ matrix_width

-- an image's rectangle, and what is read in it
abbrev enclosing_of : Shape → List ℕ → Option Rectangle
enclosing_of shape words = enclosing_rectangle (black_at shape words) shape.width shape.height

abbrev read_in : Shape → List ℕ → List ℕ → Option Rectangle → CellsRun
read_in shape words cells = if_black (cells_run 10 cells) λ r. cells_run 0 (cells_of (black_at shape words) r)

module _ (shape : Shape) (words : List ℕ) where
  -- 10 exactly when no pixel is black
  pub ten_when_white : (cells : List ℕ)
      → ((read_bits shape words cells).answer ≡ 10) ↔ ((x y : ℕ) → x < shape.width → y < shape.height → black_at shape words x y ≡ false)
  unfolding read_bits
  ten_when_white cells =
      let none = blank_when_white (black_at shape words) shape.width shape.height in
      (λ ten. none.0 (sym (go (enclosing_of shape words) refl ten)), λ white. ap (λ (e : Option Rectangle). (read_in shape words cells e).answer) (none.1 white))
    where
      go : (e : Option Rectangle) → e ≡ enclosing_of shape words → (read_in shape words cells e).answer ≡ 10 → None ≡ enclosing_of shape words
      go None is ten = is
      go (Some r) is ten = absurd (omega arith)

  -- with answer 0 what was lent has no part in what is read
  pub lent_without_part : (cells lent : List ℕ) → (read_bits shape words cells).answer ≡ 0 → read_bits shape words cells ≡ read_bits shape words lent
  unfolding read_bits
  lent_without_part cells lent read = go (enclosing_of shape words) read
    where
      go : (e : Option Rectangle) → (read_in shape words cells e).answer ≡ 0 → read_in shape words cells e ≡ read_in shape words lent e
      go None none = absurd (omega arith)
      go (Some r) some = refl

-- two images of one shape that agree at every pixel, and the same lent for the cells: the same answer and the same cells
module _ (shape : Shape) (words other : List ℕ)
    (agree : (x y : ℕ) → x < shape.width → y < shape.height → black_at shape words x y ≡ black_at shape other x y) where
  cells_same : (r : Rectangle) → Within shape.width shape.height r → cells_of (black_at shape words) r ≡ cells_of (black_at shape other) r
  cells_same r within =
      firsts_same _ _ matrix_height λ y row.
      number_same (λ x. cell (black_at shape words) r x y) (λ x. cell (black_at shape other) r x y) matrix_width λ x column.
      agree (pixel_column x y r.left r.width) (pixel_row y r.top r.height) (cell_inside r within x y).0 (cell_inside r within x y).1

  pub cells_agree : (cells : List ℕ) → read_bits shape words cells ≡ read_bits shape other cells
  unfolding read_bits
  cells_agree cells =
      go (enclosing_of shape words) refl
      ∙ ap (read_in shape other cells) (rectangle_same (black_at shape words) (black_at shape other) shape.width shape.height agree)
    where
      go : (e : Option Rectangle) → e ≡ enclosing_of shape words → read_in shape words cells e ≡ read_in shape other cells e
      go None is = refl
      go (Some r) is = ap (cells_run 0) (cells_same r (rectangle_within (black_at shape words) shape.width shape.height is))
