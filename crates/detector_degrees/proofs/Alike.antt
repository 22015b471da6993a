-- Programs that look alike at each of the eighteen points give the same degrees, with the same reads; by the points' offsets they do. Assumes nothing.
use Rattle.std.proofs.Common.{Option, None, Some, Bool, ap, ◌≡◌, ℕ, zero, suc, ◌+◌, ◌*◌, ◌<◌, ◌≤◌, false, cond, List, refl, ap₂, arith}
use Rattle.std.specs.Option.{option_map_or}
use Rattle.reads.specs.Reads.{Reads, done, ◌>>=◌}
use Rattle.bit_matrix.specs.declared.Shape.{Shape}
use Rattle.sines.specs.Sines.{angle_of}
use Rattle.sines.specs.declared.Angle.{Angle}
use Rattle.rxing_result_point.specs.declared.Point.{Point}
use Rattle.rxing_result_point.specs.declared.PointU.{PointU}
use Rattle.rxing_result_point.specs.Points.{point_at, turned}
use Rattle.detector_colours.specs.Colours.{right_colour, if_degree, points_from, test_degree}
use Rattle.detector_colours.specs.Looks.{look_past, look_offset}
use Rattle.detector_degrees.specs.Degrees.{point_of, degrees_from, look_at, try_degrees}
use Rattle.detector_degrees.specs.Offsets.{offset_past, EachPoint}

points_alike : {look look' : ℕ → Reads (Option Bool)} → ((k : ℕ) → k < 18 → look k ≡ look' k) → (n k : ℕ) → k + n ≤ 18 → points_from look n k ≡ points_from look' n k
unfolding points_from
points_alike alike zero k h = refl
points_alike alike (suc n) k h =
    ap₂
    (λ (look : Reads (Option Bool)) (rest : Reads (Option Bool)). look >>= λ sample. option_map_or (λ black. cond (right_colour k black) rest (done (Some false))) sample (done None))
    (alike k (omega arith))
    (points_alike alike n (k + 1) (omega arith))

degrees_alike : {look look' : Angle → ℕ → Reads (Option Bool)} → ((angle : Angle) (k : ℕ) → k < 18 → look angle k ≡ look' angle k)
    → (n i : ℕ) → degrees_from look n i ≡ degrees_from look' n i
unfolding test_degree degrees_from
degrees_alike alike zero i = refl
degrees_alike alike (suc n) i =
    ap₂
    (λ (test : Reads (Option Bool)) (rest : Reads (Option ℕ)). test >>= if_degree (done (Some (i * 2))) rest (done None))
    (points_alike (alike (angle_of (i * 2))) 18 0 (omega arith))
    (degrees_alike alike n (i + 1))

module _ (shape : Shape) (center : PointU) (groups : List (List PointU)) {offsets : List Point}
    (past : EachPoint (λ k. offset_past (point_at center) (point_of groups k)) offsets) where
  same_look : (angle : Angle) (k : ℕ) → k < 18 → look_offset shape (point_at center) offsets angle k ≡ look_at shape center groups angle k
  unfolding look_past look_at turned
  same_look angle k h = ap (look_past shape (point_at center) angle) (past.each k h)

  pub same_degrees : degrees_from (look_offset shape (point_at center) offsets) 175 0 ≡ try_degrees shape center groups
  unfolding try_degrees
  same_degrees = degrees_alike same_look 175 0
