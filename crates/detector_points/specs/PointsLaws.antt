-- The eighteen points of a scale are those of its boundary, and where the points of a boundary can lie. Assumes nothing.
use Rattle.std.specs.Prelude.{ℕ, ◌+◌, ◌≤◌, ◌<◌, ◌≡◌, refl, Float}
use Rattle.std.proofs.Common.{arith}
use Rattle.bit_matrix.specs.declared.Shape.{Shape}
use Rattle.rxing_result_point.specs.declared.PointU.{PointU}
use Rattle.detector_boundary.specs.declared.Boundary.{Boundary}
use Rattle.detector_boundary.specs.Boundary.{scaled_boundary}
use Rattle.detector_boundary.specs.BoundaryClauses.{Placed}
use Rattle.detector_points.specs.Orientation.{adjusted_point, orientation_points}
use Rattle.detector_points.specs.SourcePoints.{scaled_point, scaled_points}

-- The source's points of a centre, a radius and a scale are the points of the boundary that these give; they have no other part in them.
pub points_by_boundary : (shape : Shape) (center : PointU) (radius : ℕ) (scale : Float) {b : Boundary} → b ≡ scaled_boundary shape center radius scale
    → scaled_points shape center radius scale ≡ orientation_points b
unfolding scaled_point scaled_points orientation_points
points_by_boundary shape center radius scale e = rw e refl

-- in the boundary's columns; its row, capped after the bottom is added, is less than the height, and may lie before the bottom
pub record InColumns (b : Boundary) (p : PointU) : Type 0 where
  pub left : b.left ≤ p.x
  pub right : p.x < b.right
  pub row : p.y + b.bottom < b.top

pub point_in_columns : {b : Boundary} → Placed b → (cell : PointU) → InColumns b (adjusted_point b cell)
unfolding adjusted_point
point_in_columns placed cell = record {
  left = omega arith;
  right = omega (arith, placed.wide);
  row = omega (arith, placed.high);
}
