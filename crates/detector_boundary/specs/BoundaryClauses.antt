-- What the clauses of functions name. Assumes nothing.
use Rattle.std.specs.Prelude.{◌+◌, ◌≤◌, T, ℤ, unsigned_abs}
use Rattle.std.specs.Int.Signed.{non_neg}
use Rattle.bit_matrix.specs.declared.Shape.{Shape}
use Rattle.bit_matrix.specs.ShapeClauses.{Limits, Inside}
use Rattle.rxing_result_point.specs.declared.PointU.{PointU}
use Rattle.detector_boundary.specs.declared.Boundary.{Boundary}

-- a centre in an image that is not refused
pub record Centered (shape : Shape) (center : PointU) : Type 0 where
  pub limits : Limits shape
  pub inside : Inside shape center.x center.y

-- the two ends of a clamp: naturals, in order
pub record Range (low high : ℤ) : Type 0 where
  pub low_natural : T (non_neg low)
  pub high_natural : T (non_neg high)
  pub ordered : unsigned_abs low ≤ unsigned_abs high

-- a boundary that a scale can give, or the plain box (`scaled_placed`, `plain_placed`): up to column and row 2,048, and at least 33 wide and 30 high, which
-- the points' sums and differences need
pub record Placed (b : Boundary) : Type 0 where
  pub right : b.right ≤ 2048
  pub top : b.top ≤ 2048
  pub wide : b.left + 33 ≤ b.right
  pub high : b.bottom + 30 ≤ b.top
