-- The loop over `ACCEPTED_SCALES` in `box_symbol` of detector.rs. Each scale first replaces the centre by the corrected one; a corrected centre outside the
-- image ends the loop, and so does the first scale with a rotation. Definitions only. Assumes nothing.
use Rattle.std.specs.Prelude.{ℕ, zero, suc, ◌+◌, ◌-◌, Bool, cond, ◌||◌, List, [], ◌∷◌, leb, Float, Option, get_or}
use Rattle.std.specs.Float.{nan, binary64}
use Rattle.std.specs.Float.Ieee.{of_bits}
use Rattle.reads.specs.Reads.{Reads, done, ◌>>=◌}
use Rattle.bit_matrix.specs.declared.Shape.{Shape}
use Rattle.rxing_result_point.specs.declared.PointU.{PointU}
use Rattle.detector_boundary.specs.Boundary.{scaled_boundary}
use Rattle.detector_points.specs.Orientation.{orientation_points}
use Rattle.detector_circle.specs.declared.Circle.{Circle}
use Rattle.detector_circle.specs.Circle.{corrected_circle}
use Rattle.detector_degrees.specs.Degrees.{if_rotation, try_degrees}
use Rattle.detector_outcome.specs.declared.Turn.{Turn}
use Rattle.detector_outcome.specs.Outcomes.{turned_by, not_turned, lost_at}

-- `ACCEPTED_SCALES`: 0.065, 0.069, 0.07, 0.075 and 0.08
abbrev pub accepted_scales : List Float
accepted_scales =
    of_bits binary64 0x3fb0_a3d7_0a3d_70a4
    ∷ of_bits binary64 0x3fb1_a9fb_e76c_8b44
    ∷ of_bits binary64 0x3fb1_eb85_1eb8_51ec
    ∷ of_bits binary64 0x3fb3_3333_3333_3333
    ∷ of_bits binary64 0x3fb4_7ae1_47ae_147b
    ∷ []

-- scale 1 to 5
unfoldable pub accepted_scale : ℕ → Float
accepted_scale scale = get_or accepted_scales (scale - 1) nan

unfoldable pub is_outside : Shape → PointU → Bool
is_outside shape p = leb shape.width p.x || leb shape.height p.y

module _ (shape : Shape) where
  -- `attempt_rotation_box` about the corrected centre: the degrees, with the points adjusted to the scale's boundary
  unfoldable pub attempt_rotation_box : Circle → Float → Reads (Option ℕ)
  attempt_rotation_box circle scale =
      try_degrees shape circle.center (orientation_points (scaled_boundary shape circle.center circle.radius scale))

  -- n scales from this one on; the circle's centre lies inside the image
  unfoldable pub scales_from : ℕ → ℕ → Circle → Reads Turn
  scales_from zero scale circle = done (not_turned circle.center)
  scales_from (suc n) scale circle = do
    next ← corrected_circle shape circle
    cond (is_outside shape next.center) (done (lost_at scale circle.center)) (do
      rotation ← attempt_rotation_box next (accepted_scale scale)
      if_rotation (scales_from n (scale + 1) next) (λ degree. done (turned_by degree scale next.center)) rotation)

  unfoldable pub try_scales : Circle → Reads Turn
  try_scales circle = scales_from 5 1 circle
