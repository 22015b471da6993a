-- `detector_walks::step` meets its contract, by the invariant of so many steps (`Joins.antt`), each by the point in its column.
use Rattle.std.specs.Prelude.{ℕ, eqb, not, Bool}
use Rattle.reads.specs.Reads.{Reads}
use Rattle.bit_matrix.specs.declared.Shape.{Shape}
use Rattle.sines.specs.declared.Angle.{Angle}
use Rattle.rxing_result_point.specs.declared.PointU.{PointU}
use Rattle.detector_walks.specs.Walks.{walk_point, white_point}
use Rattle.detector_walks.specs.WalksClauses.{column}
use Rattle.detector_walks.proofs.Joins.{Going}
use Rattle.detector_walks.proofs.step.Given as goal

-- the test of step i from column x on
abbrev pub pointed : Bool → PointU → Angle → ℕ → Shape → ℕ → Reads Bool
pointed left center angle x shape i = white_point shape (walk_point center angle (column left x i))

abbrev pub invariant-loop-i : goal.invariant-loop-i
invariant-loop-i g l =
    Going (not (eqb g.row.LEFT 0)) l.initial.image (pointed (not (eqb g.row.LEFT 0)) l.ray.center l.ray.angle l.x) 16 l.x l.image l.i
