-- `detector_turn::attempt_rotation_box` meets its contract: the degrees' run, at the points that the other calls give.
use Rattle.std.specs.Prelude.{Option}
use Rattle.std.proofs.Common.{ℕ, List, ◌≡◌, T, Float}
use Rattle.bit_matrix.specs.declared.Shape.{Shape}
use Rattle.bit_matrix.specs.declared.BitMatrix.{BitMatrix}
use Rattle.bit_matrix.specs.ImageClauses.{RanOn}
use Rattle.rxing_result_point.specs.declared.PointU.{PointU}
use Rattle.detector_boundary.specs.declared.Boundary.{Boundary}
use Rattle.detector_boundary.specs.Boundary.{scaled_boundary}
use Rattle.detector_size.specs.SizeClauses.{is_scale}
use Rattle.detector_boundary.specs.InImageLaws.{scaled_placed}
use Rattle.detector_boundary.specs.BoundaryClauses.{Centered, Placed}
use Rattle.detector_points.specs.Orientation.{orientation_points}
use Rattle.detector_circle.specs.declared.Circle.{Circle}
use Rattle.detector_degrees.specs.Degrees.{try_degrees}
use Rattle.detector_turn.specs.Scales.{attempt_rotation_box}
use Rattle.detector_turn.specs.ScalesClauses.{InsideCircle}
use Rattle.detector_turn.proofs.attempt_rotation_box.Goals as goal

centered : (image : BitMatrix) {circle : Circle} → InsideCircle image.shape circle → Centered image.shape circle.center
centered image circled = record { limits = image.is_image.limits; inside = circled.inside }

placed : (image : BitMatrix) {circle : Circle} (scale : Float) {b : Boundary}
    → InsideCircle image.shape circle → T (is_scale scale) → b ≡ scaled_boundary image.shape circle.center circle.radius scale → Placed b
placed image scale circled t e = rw e (scaled_placed scale (centered image circled) circled.least circled.most t)

attempted : {image after : BitMatrix} {r : Option ℕ} (shape : Shape) (circle : Circle) (scale : Float) {b : Boundary} {points : List (List PointU)}
    → b ≡ scaled_boundary shape circle.center circle.radius scale → points ≡ orientation_points b
    → RanOn (try_degrees shape circle.center points) image r after
    → RanOn (attempt_rotation_box shape circle scale) image r after
unfolding attempt_rotation_box
attempted shape circle scale e f ran = rw (f, e) at ran

pub adjusted_orientation_points-points-requires : goal.adjusted_orientation_points-points-requires
adjusted_orientation_points-points-requires c = search placed

pub returns : goal.returns
returns c = search attempted
