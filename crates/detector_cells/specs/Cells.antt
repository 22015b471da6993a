-- The 33 rows of 30 cells of a symbol that fills the image, `read_bits` of detector.rs: docs/MANUAL.md, "The cells of a symbol". Here `black x y` tells
-- whether the pixel at column x of row y is black. Definitions only. Assumes nothing.
use Rattle.std.specs.Prelude.{ℕ, Bool, List, Result, Ok, Err}
use Rattle.crop_padding.specs.Below.{firsts, number}
use Rattle.bit_matrix.specs.declared.Shape.{Shape}
use Rattle.detector_points.specs.Orientation.{matrix_width, matrix_height, pixel_column, pixel_row}
use Rattle.bit_matrix_rectangle.specs.declared.Rectangle.{Rectangle}
use Rattle.detector_cells.specs.declared.Blank.{Blank}
use Rattle.bit_matrix_rectangle.specs.Rectangle.{black_at, if_black, enclosing_rectangle}

-- cell x of row y, over a rectangle
abbrev pub cell : (ℕ → ℕ → Bool) → Rectangle → ℕ → ℕ → Bool
cell black r x y = black (pixel_column x y r.left r.width) (pixel_row y r.top r.height)

-- the cells of row y as one number, cell x at bit x; and all rows
abbrev pub cell_word : (ℕ → ℕ → Bool) → Rectangle → ℕ → ℕ
cell_word black r y = number (λ x. cell black r x y) matrix_width

abbrev pub cells_of : (ℕ → ℕ → Bool) → Rectangle → List ℕ
cells_of black r = firsts (cell_word black r) matrix_height

-- what one call gives: its answer, and the cells afterwards
pub record CellsRun : Type 0 where
  pub answer : ℕ
  pub cells : List ℕ

abbrev pub cells_run : ℕ → List ℕ → CellsRun
cells_run answer cells = record { answer = answer; cells = cells }

-- the answer of what `read_bits` gives
abbrev pub read_answer : Result (Unit {0}) Blank → ℕ
read_answer (Ok done) = 0
read_answer (Err blank) = 10

-- `read_bits`: the cells of the enclosing rectangle; 10 where no pixel is black, and the cells are as they were
unfoldable pub read_bits : Shape → List ℕ → List ℕ → CellsRun
read_bits shape words cells =
    if_black (cells_run 10 cells) (λ r. cells_run 0 (cells_of (black_at shape words) r)) (enclosing_rectangle (black_at shape words) shape.width shape.height)
