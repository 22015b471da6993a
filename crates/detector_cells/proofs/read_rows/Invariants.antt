-- `detector_cells::read_rows` meets its contract. The invariant: the words before y are stored, and the rest is as it was.
use Rattle.std.proofs.Common.{ℕ, List, ◌++◌, ◌≡◌, length, drop}
use Rattle.crop_padding.specs.Below.{firsts}
use Rattle.bit_matrix_rectangle.specs.Rectangle.{black_at}
use Rattle.detector_cells.specs.Cells.{cell_word}
use Rattle.detector_cells.proofs.read_rows.Given as goal

-- the words before y are stored
pub record Storing (f : ℕ → ℕ) (cells₀ cells : List ℕ) (y : ℕ) : Type 0 where
  pub stored : cells ≡ firsts f y ++ drop y cells₀
  pub sized : length cells ≡ length cells₀

abbrev pub invariant-loop-y : goal.invariant-loop-y
invariant-loop-y l = Storing (cell_word (black_at l.image.shape l.image.words.now) l.rectangle) l.initial.cells l.cells l.y
