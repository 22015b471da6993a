-- The degrees as the source tries them: a degree goes down to every point, and `get_point` works out its sine and cosine for the point, here by the table
-- that stands in for both. `DegreesLaws` proves them equal to those that look them up once. Assumes nothing.
use Rattle.std.specs.Prelude.{Option, None, Some, Bool, ℕ, zero, suc, ◌+◌, ◌*◌, List}
use Rattle.std.specs.Float.Ieee.{to_unsigned}
use Rattle.reads.specs.Reads.{Reads, done, ◌>>=◌}
use Rattle.bit_matrix.specs.declared.Shape.{Shape}
use Rattle.bit_matrix_area.specs.Area.{try_get_area}
use Rattle.rxing_result_point.specs.declared.PointU.{PointU}
use Rattle.rxing_result_point.specs.Points.{get_point}
use Rattle.detector_colours.specs.Colours.{if_degree, test_degree}
use Rattle.detector_degrees.specs.Degrees.{point_of}

module _ (shape : Shape) (center : PointU) (groups : List (List PointU)) where
  -- the area about the pixel in which `get_point` puts point k
  unfoldable pub look_at_degree : ℕ → ℕ → Reads (Option Bool)
  look_at_degree degree k = let p = get_point center (point_of groups k) degree in try_get_area shape (to_unsigned 32 p.x) (to_unsigned 32 p.y)

  -- the test of a degree
  unfoldable pub test_at_degree : ℕ → Reads (Option Bool)
  test_at_degree degree = test_degree (look_at_degree degree)

  -- n degrees from degree 2 * i on
  unfoldable pub degrees_at : ℕ → ℕ → Reads (Option ℕ)
  degrees_at zero i = done None
  degrees_at (suc n) i = test_at_degree (i * 2) >>= if_degree (done (Some (i * 2))) (degrees_at n (i + 1)) (done None)
