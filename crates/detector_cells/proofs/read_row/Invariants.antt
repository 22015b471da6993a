-- `detector_cells::read_row` meets its contract. The invariant: the cells before x are read.
use Rattle.std.proofs.Common.{◌≡◌}
use Rattle.crop_padding.specs.Below.{number}
use Rattle.bit_matrix_rectangle.specs.Rectangle.{black_at}
use Rattle.detector_cells.specs.Cells.{cell}
use Rattle.detector_cells.proofs.read_row.Given as goal

abbrev pub invariant-loop-x : goal.invariant-loop-x
invariant-loop-x l = l.cells ≡ number (λ i. cell (black_at l.image.shape l.image.words.now) l.rectangle i l.y) l.x
