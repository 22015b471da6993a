-- `attempt_rotation_box` as the source has it, without the centre's correction before it and the corners' turn after it: the boundary is worked out for each
-- point, and sine and cosine for each point at each degree. `ScalesLaws` proves it equal to the one that does both before the points. Assumes nothing.
use Rattle.std.specs.Prelude.{ℕ, Float, Option}
use Rattle.reads.specs.Reads.{Reads}
use Rattle.bit_matrix.specs.declared.Shape.{Shape}
use Rattle.detector_points.specs.SourcePoints.{scaled_points}
use Rattle.detector_circle.specs.declared.Circle.{Circle}
use Rattle.detector_degrees.specs.SourceDegrees.{degrees_at}

-- about the corrected centre
unfoldable pub attempt_at_each_point : Shape → Circle → Float → Reads (Option ℕ)
attempt_at_each_point shape circle scale =
    degrees_at shape circle.center (scaled_points shape circle.center circle.radius scale) 175 0
