-- `detector_walks::strides` meets its contract. The invariant is `Walking` (`Walking.antt`): from the present column, what is left of the definition ends
-- as the whole does. The measure is how many columns are left at most.
use Rattle.std.specs.Prelude.{eqb, not}
use Rattle.detector_walks.proofs.Walking.{Walking, columns_left}
use Rattle.detector_walks.proofs.strides.Given as goal

abbrev pub invariant-loop-image : goal.invariant-loop-image
invariant-loop-image g l = Walking l.initial.image l.ray.center l.ray.angle (not (eqb g.row.LEFT 0)) l.first l.image l.x

abbrev pub decreases-loop-image : goal.decreases-loop-image
decreases-loop-image g l = columns_left l.initial.image l.ray.center l.ray.angle (not (eqb g.row.LEFT 0)) l.x
