-- Which degrees are found, on every image; and that a degree's test needs of the degree its sine and cosine alone. Assumes nothing.
use Rattle.std.specs.Prelude.{Option, None, Some, Bool, true, false, ◌≡◌, ℕ, zero, suc, ◌+◌, ◌*◌, ◌%◌, ◌≤◌, List, Float}
use Rattle.std.specs.Option.{unwrap_or}
use Rattle.std.proofs.Math.Path.{refl, ap₂}
use Rattle.std.proofs.Common.{arith}
use Rattle.reads.specs.Reads.{Reads, done, ◌>>=◌}
use Rattle.reads.specs.ReadsLaws.{Always}
use Rattle.reads.proofs.ReadsLaws.{always_done, always_after}
use Rattle.bit_matrix.specs.declared.Shape.{Shape}
use Rattle.sines.specs.Sines.{sine_of, cosine_of}
use Rattle.sines.specs.declared.Angle.{Angle}
use Rattle.rxing_result_point.specs.declared.PointU.{PointU}
use Rattle.detector_colours.specs.Colours.{if_degree, test_degree}
use Rattle.detector_degrees.specs.Degrees.{degrees_from, look_at, try_degrees}
use Rattle.detector_degrees.specs.SourceDegrees.{look_at_degree, test_at_degree, degrees_at}

-- a found degree is even and at most 348
pub record Tried (found : Option ℕ) : Type 0 where
  pub even : unwrap_or found 0 % 2 ≡ 0
  pub low : unwrap_or found 0 ≤ 348

from_tried : (look : Angle → ℕ → Reads (Option Bool)) (n i : ℕ) → i + n ≤ 175 → Always Tried (degrees_from look n i)
unfolding degrees_from
from_tried look zero i h = always_done (record { even = refl; low = omega arith })
from_tried look (suc n) i h = always_after _ _ (next (from_tried look n (i + 1) (omega arith)))
  where
    next : Always Tried (degrees_from look n (i + 1)) → (tested : Option Bool)
        → Always Tried (if_degree (done (Some (i * 2))) (degrees_from look n (i + 1)) (done None) tested)
    next rest (Some true) = always_done (record { even = omega arith; low = omega arith })
    next rest (Some false) = rest
    next rest None = always_done (record { even = refl; low = omega arith })

pub tried : (shape : Shape) (center : PointU) (groups : List (List PointU)) → Always Tried (try_degrees shape center groups)
unfolding try_degrees
tried shape center groups = from_tried _ 175 0 (omega arith)

-- ---- sine and cosine once for each degree

module _ (shape : Shape) (center : PointU) (groups : List (List PointU)) where
  -- The source's test of a degree is the test that takes sine and cosine, and no degree.
  pub test_by_angle : (degree : ℕ) {sin cos : Float} → sin ≡ sine_of degree → cos ≡ cosine_of degree
      → test_at_degree shape center groups degree ≡ test_degree (look_at shape center groups (record { sin = sin; cos = cos }))
  unfolding test_at_degree look_at_degree look_at
  test_by_angle degree e f = rw (e, f) refl

  -- so its loop over the degrees is the one that looks up both before the points
  same_from : (n i : ℕ) → degrees_at shape center groups n i ≡ degrees_from (look_at shape center groups) n i
  unfolding degrees_at degrees_from
  same_from zero i = refl
  same_from (suc n) i =
      ap₂
      (λ (test : Reads (Option Bool)) (rest : Reads (Option ℕ)). test >>= if_degree (done (Some (i * 2))) rest (done None))
      (test_by_angle (i * 2) refl refl)
      (same_from n (i + 1))

  pub degrees_by_angle : degrees_at shape center groups 175 0 ≡ try_degrees shape center groups
  unfolding try_degrees
  degrees_by_angle = same_from 175 0
