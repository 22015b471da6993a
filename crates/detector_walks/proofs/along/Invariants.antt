-- `detector_walks::along` meets its contract: the numbers are listed one after another. The remainder leaves each column as it is.
use Rattle.std.specs.Prelude.{eqb, not}
use Rattle.detector_walks.specs.WalksClauses.{Along}
use Rattle.detector_walks.proofs.along.Given as goal

abbrev pub invariant-loop-i : goal.invariant-loop-i
invariant-loop-i g l = Along (not (eqb g.row.LEFT 0)) l.factor l.center_x l.place l.x l.i l.cells
