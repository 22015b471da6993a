-- `detector_walks::stride` meets its contract, by the invariant of so many steps (`Joins.antt`), each by the numbers that are listed for its column.
use Rattle.std.specs.Prelude.{ℕ, eqb, not, Bool, List, get_or}
use Rattle.reads.specs.Reads.{Reads}
use Rattle.bit_matrix.specs.declared.Shape.{Shape}
use Rattle.detector_walks.specs.Walks.{white_pixel}
use Rattle.detector_walks.proofs.Joins.{Going}
use Rattle.detector_walks.proofs.stride.Given as goal

-- the test of step i, by the numbers listed for it
abbrev pub listed : List ℕ → List ℕ → Shape → ℕ → Reads Bool
listed columns rows shape i = white_pixel shape (get_or columns i 0) (get_or rows i 0)

abbrev pub invariant-loop-i : goal.invariant-loop-i
invariant-loop-i g l = Going (not (eqb g.row.LEFT 0)) l.initial.image (listed l.columns l.rows) 32 l.x l.image l.i
