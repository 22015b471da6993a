-- The loop over degrees in `attempt_rotation_box` of detector.rs: six groups of three points, turned about the centre. Definitions only. Assumes
-- nothing.
use Rattle.std.specs.Prelude.{Option, None, Some, Bool, ℕ, zero, suc, ◌+◌, ◌*◌, ◌/◌, ◌%◌, List, [], slice_index_or}
use Rattle.std.specs.Float.Ieee.{to_unsigned}
use Rattle.reads.specs.Reads.{Reads, done, ◌>>=◌}
use Rattle.bit_matrix.specs.declared.Shape.{Shape}
use Rattle.bit_matrix_area.specs.Area.{try_get_area}
use Rattle.sines.specs.Sines.{angle_of}
use Rattle.sines.specs.declared.Angle.{Angle}
use Rattle.rxing_result_point.specs.declared.PointU.{PointU}
use Rattle.rxing_result_point.specs.Points.{turned}
use Rattle.detector_colours.specs.Colours.{if_degree, test_degree}

-- point k of the eighteen: three of each group
unfoldable pub point_of : List (List PointU) → ℕ → PointU
point_of groups k = slice_index_or (slice_index_or groups (k / 3) []) (k % 3) (record { x = 0; y = 0 })

-- by cases on a rotation
abbrev pub if_rotation : {B : Type 0} → B → (ℕ → B) → Option ℕ → B
if_rotation none some None = none
if_rotation none some (Some degree) = some degree

-- n degrees from degree 2 * i on, by a program that looks at a point at an angle
unfoldable pub degrees_from : (Angle → ℕ → Reads (Option Bool)) → ℕ → ℕ → Reads (Option ℕ)
degrees_from look zero i = done None
degrees_from look (suc n) i = do
  tested ← test_degree (look (angle_of (i * 2)))
  if_degree (done (Some (i * 2))) (degrees_from look n (i + 1)) (done None) tested

module _ (shape : Shape) (center : PointU) (groups : List (List PointU)) where
  -- the area about the pixel in which point k lies when it is turned
  unfoldable pub look_at : Angle → ℕ → Reads (Option Bool)
  look_at angle k = let p = turned center (point_of groups k) angle in try_get_area shape (to_unsigned 32 p.x) (to_unsigned 32 p.y)

  unfoldable pub try_degrees : Reads (Option ℕ)
  try_degrees = degrees_from look_at 175 0
