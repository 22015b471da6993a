-- `find_width_at_degree` of detector.rs: the walks to the left and to the right as reading programs, which points they look at and where they end.
-- Definitions only. Assumes nothing.
use Rattle.std.specs.Prelude.{ℕ, zero, suc, ◌+◌, ◌-◌, ◌^◌, Bool, true, false, not, cond}
use Rattle.std.specs.Float.Ieee.{to_unsigned}
use Rattle.reads.specs.Reads.{Reads, done, ◌>>=◌}
use Rattle.bit_matrix.specs.declared.Shape.{Shape}
use Rattle.bit_matrix.specs.Pixels.{pixel, out_of_range}
use Rattle.sines.specs.declared.Angle.{Angle}
use Rattle.sines.specs.Sines.{angle_of}
use Rattle.rxing_result_point.specs.declared.Point.{Point}
use Rattle.rxing_result_point.specs.declared.PointU.{PointU}
use Rattle.rxing_result_point.specs.Points.{turned}
use Rattle.detector_walks.specs.declared.Width.{Width}

-- the point that a walk is at in column x of the centre's row, turned
abbrev pub walk_point : PointU → Angle → ℕ → Point
walk_point center angle x = turned center (record { x = x; y = center.y }) angle

-- the first column of a walk to the left, or to the right
abbrev pub first_column : PointU → Bool → ℕ
first_column center left = cond left center.x (center.x + 1)

-- the width between the columns where the walks end: so many steps from their first columns, left and right together, and the points there
unfoldable pub width_of : PointU → Angle → ℕ → ℕ → Width
width_of center angle left right = record {
  length = first_column center true - left + (right - first_column center false);
  left = walk_point center angle left;
  right = walk_point center angle right;
}

module _ (shape : Shape) where
  -- the loops' test: in range and white
  unfoldable pub white_pixel : ℕ → ℕ → Reads Bool
  white_pixel x y = cond (out_of_range shape x y) (done false) (do
    black ← pixel shape x y
    done (not black))

  abbrev pub white_point : Point → Reads Bool
  white_point p = white_pixel (to_unsigned 32 p.x) (to_unsigned 32 p.y)

  module _ (center : PointU) (angle : Angle) where
    -- the column where the walk to the left from column x ends: the first whose point is out of range or black, or column 0, which is read too
    unfoldable pub left_from : ℕ → Reads ℕ
    left_from zero = do
      white ← white_point (walk_point center angle zero)
      done zero
    left_from (suc x) = do
      white ← white_point (walk_point center angle (suc x))
      cond white (left_from x) (done (suc x))

    -- the column where the walk to the right from column x ends, within so many steps
    unfoldable pub right_from : ℕ → ℕ → Reads ℕ
    right_from zero x = done x
    right_from (suc fuel) x = do
      white ← white_point (walk_point center angle x)
      cond white (right_from fuel (x + 1)) (done x)

    -- the walk to the left (true), or to the right, which ends before its steps are used up (`right_ends`, WalksLaws.antt)
    unfoldable pub walk : Bool → Reads ℕ
    walk true = left_from (first_column center true)
    walk false = right_from (2 ^ 20) (first_column center false)

  -- `find_width_at_degree`
  unfoldable pub find_width_at_degree : PointU → ℕ → Reads Width
  find_width_at_degree center degree = do
    left ← walk center (angle_of degree) true
    right ← walk center (angle_of degree) false
    done (width_of center (angle_of degree) left right)
