-- `detect_ellipse` and `check_ellipse_point` of detector.rs: whether the ends of the walks from a centre lie in an ellipse about it (docs/MANUAL.md,
-- "How a search decides"). Definitions only. Assumes nothing.
use Rattle.std.specs.Prelude.{ℕ, zero, suc, ◌+◌, ◌-◌, ◌*◌, ◌/◌, min, max, Bool, false, cond, not, List, [], ◌∷◌, ◌++◌, ◌==◌, nat_le, Float}
use Rattle.std.specs.Float.{binary64}
use Rattle.std.specs.Float.Ieee.{add, sub, mul, div, lt}
use Rattle.ieee.specs.Whole.{real64}
use Rattle.ieee_sqrt.specs.Sqrt.{isqrt}
use Rattle.reads.specs.Reads.{Reads, done, ◌>>=◌}
use Rattle.bit_matrix.specs.declared.Shape.{Shape}
use Rattle.rxing_result_point.specs.declared.Point.{Point}
use Rattle.rxing_result_point.specs.declared.PointU.{PointU}
use Rattle.detector_walks.specs.declared.Width.{Width}
use Rattle.detector_walks.specs.Walks.{find_width_at_degree}

-- ---- the walks

module _ (shape : Shape) (center : PointU) where
  -- n more widths, at 5 degrees times i, i + 1 and so on, behind those that are walked
  unfoldable pub widths_from : ℕ → ℕ → List Width → Reads (List Width)
  widths_from zero i widths = done widths
  widths_from (suc n) i widths = do
    width ← find_width_at_degree shape center (5 * i)
    widths_from n (i + 1) (widths ++ width ∷ [])

  -- at 0, 5, .. 355 degrees
  unfoldable pub widths_about : Reads (List Width)
  widths_about = widths_from 72 0 []

-- ---- the half axes

-- the longest length; and the shortest of a number and the lengths
unfoldable pub longest : List Width → ℕ
longest [] = 0
longest (w ∷ ws) = max w.length (longest ws)

unfoldable pub shortest : ℕ → List Width → ℕ
shortest n [] = n
shortest n (w ∷ ws) = min w.length (shortest n ws)

-- half of the longest, and of the shortest, of which none is above the longest, by whole division
abbrev pub semi_major : List Width → ℕ
semi_major widths = longest widths / 2

abbrev pub semi_minor : List Width → ℕ
semi_minor widths = shortest (longest widths) widths / 2

-- the whole root of the difference of the squares; 0 exactly where the halves are equal (`no_eccentricity`, EllipseLaws.antt)
unfoldable pub linear_eccentricity : List Width → ℕ
linear_eccentricity widths = isqrt (semi_major widths * semi_major widths - semi_minor widths * semi_minor widths)

-- ---- the points

-- the square of x by the square of n, a square being the value times itself
abbrev pub quotient : Float → ℕ → Float
quotient x n = div binary64 (mul binary64 x x) (mul binary64 (real64 n) (real64 n))

-- `check_ellipse_point`, in f64: the longest half under x, the shortest under y
unfoldable pub check_ellipse_point : PointU → Point → ℕ → ℕ → Float
check_ellipse_point center p major minor =
    add binary64 (quotient (sub binary64 p.x (real64 center.x)) major) (quotient (sub binary64 p.y (real64 center.y)) minor)

module _ (center : PointU) (major minor : ℕ) where
  -- a point passes unless the sum is above 1; a sum that is no number is not
  unfoldable pub in_ellipse : Point → Bool
  in_ellipse p = not (lt (real64 1) (check_ellipse_point center p major minor))

  -- how many ends of the widths pass
  unfoldable pub good_points : List Width → ℕ
  good_points [] = 0
  good_points (w ∷ ws) = cond (in_ellipse w.left) 1 0 + cond (in_ellipse w.right) 1 0 + good_points ws

-- ---- the check

-- four fifths of 144 points or more; as the source says it in f32: `four_fifths_f32`, EllipseLaws.antt
abbrev pub four_fifths : ℕ → Bool
four_fifths good = nat_le 576 (5 * good)

-- an ellipse, unless the halves are equal or fewer than four fifths of the ends pass
unfoldable pub is_ellipse : PointU → List Width → Bool
is_ellipse center widths =
    cond (linear_eccentricity widths == 0) false (four_fifths (good_points center (semi_major widths) (semi_minor widths) widths))

-- `detect_ellipse`, its first result
unfoldable pub detect_ellipse : Shape → PointU → Reads Bool
detect_ellipse shape center = do
  widths ← widths_about shape center
  done (is_ellipse center widths)
