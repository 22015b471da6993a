-- The points as the source makes them: circle and scale go down to every point, which works out its boundary for itself. `PointsLaws` proves them equal to
-- the points of one boundary. Assumes nothing.
use Rattle.std.specs.Prelude.{ℕ, List, map, Float}
use Rattle.bit_matrix.specs.declared.Shape.{Shape}
use Rattle.rxing_result_point.specs.declared.PointU.{PointU}
use Rattle.detector_boundary.specs.Boundary.{scaled_boundary}
use Rattle.detector_points.specs.Orientation.{adjusted_point, orientation_cells}

module _ (shape : Shape) (center : PointU) (radius : ℕ) (scale : Float) where
  -- `adjust_point_alternate` of the source
  unfoldable pub scaled_point : PointU → PointU
  scaled_point cell = adjusted_point (scaled_boundary shape center radius scale) cell

  -- its eighteen points
  unfoldable pub scaled_points : List (List PointU)
  scaled_points = map (map scaled_point) orientation_cells
