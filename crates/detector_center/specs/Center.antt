-- The corrected centre of detector.rs: the centre of the circle through three points, each operation rounded once in the Rust's order, and as a pixel.
-- Definitions only. Assumes nothing.
use Rattle.std.specs.Prelude.{Float}
use Rattle.std.specs.Float.{binary32}
use Rattle.std.specs.Float.Ieee.{add, sub, mul, div}
use Rattle.ieee.specs.Sign.{abs}
use Rattle.reads.specs.Reads.{Reads, done, ◌>>=◌}
use Rattle.bit_matrix.specs.declared.Shape.{Shape}
use Rattle.rxing_result_point.specs.declared.Point.{Point}
use Rattle.rxing_result_point.specs.declared.PointU.{PointU}
use Rattle.rxing_result_point.specs.Points.{real, rounded}
use Rattle.detector_walks.specs.Walks.{find_width_at_degree}

infixl 6 ◌⊕◌
abbrev ◌⊕◌ : Float → Float → Float
x ⊕ y = add binary32 x y

infixl 6 ◌⊖◌
abbrev ◌⊖◌ : Float → Float → Float
x ⊖ y = sub binary32 x y

infixl 7 ◌⊗◌
abbrev ◌⊗◌ : Float → Float → Float
x ⊗ y = mul binary32 x y

-- x squared plus y squared
abbrev squared_length : Point → Float
squared_length p = p.x ⊗ p.x ⊕ p.y ⊗ p.y

-- `find_center`
unfoldable pub find_center : Point → Point → Point → Point
find_center p q r =
    let a = p.x ⊗ (q.y ⊖ r.y) ⊖ p.y ⊗ (q.x ⊖ r.x) ⊕ (q.x ⊗ r.y ⊖ r.x ⊗ q.y) in
    let bx = squared_length p ⊗ (r.y ⊖ q.y) ⊕ squared_length q ⊗ (p.y ⊖ r.y) ⊕ squared_length r ⊗ (q.y ⊖ p.y) in
    let by = squared_length p ⊗ (q.x ⊖ r.x) ⊕ squared_length q ⊗ (r.x ⊖ p.x) ⊕ squared_length r ⊗ (p.x ⊖ q.x) in
    record { x = abs (div binary32 bx (real 2 ⊗ a)); y = abs (div binary32 by (real 2 ⊗ a)) }

-- `calculate_high_accuracy_center`: through both ends at 7 degrees and the left end at 97, whose right end is unused
unfoldable pub corrected : Shape → PointU → Reads PointU
corrected shape center = do
  first ← find_width_at_degree shape center 7
  second ← find_width_at_degree shape center 97
  done (rounded (find_center first.left first.right second.left))
