-- What the clauses of functions name. Assumes nothing.
use Rattle.std.specs.Prelude.{ℕ, zero, suc, ◌+◌, ◌-◌, ◌^◌, ◌<◌, Bool, true, false, cond, List, ◌≡◌, length, get_or, Float}
use Rattle.std.specs.Float.{binary32}
use Rattle.std.specs.Float.Ieee.{add, mul, to_unsigned}
use Rattle.ieee.specs.Sign.{abs}
use Rattle.reads.specs.Reads.{Reads, done, ◌>>=◌}
use Rattle.reads.specs.RunsClauses.{Ran}
use Rattle.bit_matrix.specs.declared.Shape.{Shape}
use Rattle.bit_matrix.specs.ShapeClauses.{Image, Inside}
use Rattle.sines.specs.declared.Angle.{Angle}
use Rattle.sines.specs.Sines.{angle_of}
use Rattle.rxing_result_point.specs.declared.PointU.{PointU}
use Rattle.rxing_result_point.specs.Points.{real, past}
use Rattle.detector_walks.specs.Walks.{walk_point, white_point, left_from, right_from}

-- what a step about a centre is lent: an image, and a centre inside it
pub record Lent (shape : Shape) (words marks : List ℕ) (center : PointU) : Type 0 where
  pub image : Image shape words marks
  pub inside : Inside shape center.x center.y

-- the angle of some degree
pub record OfDegree (angle : Angle) : Type 0 where
  pub degree : ℕ
  pub is : angle ≡ angle_of degree

-- where the point of column x lies along one axis: factor is the cosine or the sine, place the centre's on that axis, c the centre's column
abbrev pub cell_at : Float → ℕ → ℕ → ℕ → ℕ
cell_at factor c place x = to_unsigned 32 (abs (add binary32 (mul binary32 factor (past c x)) (real place)))

-- the column i steps from column x on, to the left or to the right
abbrev pub column : Bool → ℕ → ℕ → ℕ
column left x i = cond left (x - i) (x + i)

-- the first n of 32 numbers are those of the columns from x on, to the left or to the right
pub record Along (left : Bool) (factor : Float) (c place x n : ℕ) (cells : List ℕ) : Type 0 where
  pub all : length cells ≡ 32
  pub at : (i : ℕ) → i < n → get_or cells i 0 ≡ cell_at factor c place (column left x i)

-- n steps by a test, from x on: the first number of which it does not hold, or x + n
module _ (test : ℕ → Reads Bool) where
  unfoldable pub steps : ℕ → ℕ → Reads ℕ
  steps zero x = done x
  steps (suc n) x = test x >>= λ (white : Bool). cond white (steps n (x + 1)) (done x)

-- the test of the point i columns to the left of column x
abbrev pub white_back : Shape → PointU → Angle → ℕ → ℕ → Reads Bool
white_back shape center angle x i = white_point shape (walk_point center angle (x - i))

-- k of n steps from column x on are taken: as a count to the left, and as the column where they end to the right
pub record Taken (left : Bool) (shape : Shape) (center : PointU) (angle : Angle) (n x : ℕ) (words marks : List ℕ) (k : ℕ) (marks' : List ℕ) : Type 0 where
  pub back : left ≡ true → Ran (steps (white_back shape center angle x) n 0) words marks k marks'
  pub on : left ≡ false → Ran (right_from shape center angle n x) words marks (x + k) marks'

-- the steps that the walk to the right may still take from column x on
abbrev pub steps_remaining : PointU → ℕ → ℕ
steps_remaining center x = center.x + 1 + 2 ^ 20 - x

-- the walk from column x on, to the left or to the right
abbrev pub rest : Bool → Shape → PointU → Angle → ℕ → Reads ℕ
rest left shape center angle x = cond left (left_from shape center angle x) (right_from shape center angle (steps_remaining center x) x)
