-- A circle with its centre corrected, its radius as it was. Definitions only. Assumes nothing.
use Rattle.reads.specs.Reads.{Reads, done, ◌>>=◌}
use Rattle.bit_matrix.specs.declared.Shape.{Shape}
use Rattle.detector_center.specs.Center.{corrected}
use Rattle.detector_circle.specs.declared.Circle.{Circle}

-- `calculate_high_accuracy_center`, of the circle that it is lent
unfoldable pub corrected_circle : Shape → Circle → Reads Circle
corrected_circle shape circle = do
  center ← corrected shape circle.center
  done (record { center = center; radius = circle.radius })
