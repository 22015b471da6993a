-- What a step of a walk looks at: the pixel of the turned point. Each cast to f32 loses nothing, and a term that is left out is zero (`Level.antt`). Assumes
-- nothing.
use Rattle.std.proofs.Common.{ℕ, ◌^◌, ◌≤◌, ◌<◌, Bool, false, not, List, ◌≡◌, sym, ap₂, subst, ◌∙◌, arith, T, le→leb, pos, pow_pos, Float}
use Rattle.std.specs.Float.Ieee.{neg, add, sub, mul, lt, to_unsigned, in_float}
use Rattle.std.specs.Float.{fin, binary32}
use lib.Ieee.Fits.{mul-fits}
use Rattle.ieee.specs.Sign.{abs}
use Rattle.ieee.specs.BetweenLaws.{Between}
use Rattle.ieee.specs.SizeLaws.{neg_value, size_unit}
use Rattle.reads.specs.Reads.{Reads}
use Rattle.reads.specs.RunsClauses.{Ran}
use Rattle.bit_matrix.specs.declared.Shape.{Shape}
use Rattle.bit_matrix.specs.ShapeClauses.{Limits, Inside}
use Rattle.sines.specs.declared.Angle.{Angle}
use Rattle.sines.specs.Laws.{scaled, negative}
use Rattle.rxing_result_point.specs.declared.PointU.{PointU}
use Rattle.rxing_result_point.specs.PointsLaws.{real_value}
use Rattle.rxing_result_point.specs.Points.{past, real, turned}
use Rattle.detector_walks.specs.Walks.{walk_point, white_pixel, white_point}
use Rattle.detector_walks.specs.WalksClauses.{OfDegree, cell_at}
use Rattle.detector_walks.proofs.Degrees.{rules_of}
use Rattle.detector_walks.specs.FarLaws.{mul_zero_value}
use Rattle.detector_walks.specs.WalksLaws.{past_value}
use Rattle.detector_walks.proofs.Level.{size_without, size_across, size_below}

pub exact : (n : ℕ) → n ≤ 2 ^ 24 → T (in_float binary32 (pos n))
unfolding in_float
exact n h = le→leb n (2 ^ 24) h

module _ {shape : Shape} {x y : ℕ} (limits : Limits shape) (inside : Inside shape x y) where
  pub left : x < 2 ^ 11
  left = omega (arith, limits.width_most, inside.column)

  pub high : y < 2 ^ 11
  high = omega (arith, limits.height_most, inside.row)

module _ {angle : Angle} (of : ∥ OfDegree angle ∥₁) where
  pub sine_size : Between 0 1 (abs angle.sin)
  sine_size = size_unit angle.sin _ _ (2 ^ 29) (rules_of of).sine (pow_pos 29) (rules_of of).sine_unit

  pub cosine_size : Between 0 1 (abs angle.cos)
  cosine_size = size_unit angle.cos _ _ (2 ^ 29) (rules_of of).cosine (pow_pos 29) (rules_of of).cosine_unit

module _ {shape : Shape} {center : PointU} {angle : Angle} {x : ℕ} (limits : Limits shape) (inside : Inside shape center.x center.y) (of : ∥ OfDegree angle ∥₁)
    (low : x ≤ 2 ^ 21) where
  abbrev u : Float
  u = past center.x x

  -- both are small enough for the cast
  pub column_below : T (lt (abs (add binary32 (mul binary32 angle.cos u) (real center.x))) (fin false 1 (pos 28)))
  column_below = size_below angle.cos center.x x center.x (cosine_size of) (left limits inside) low (left limits inside) 28 (omega arith)

  pub row_below : T (lt (abs (add binary32 (mul binary32 angle.sin u) (real center.y))) (fin false 1 (pos 28)))
  row_below = size_below angle.sin center.x x center.y (sine_size of) (left limits inside) low (high limits inside) 28 (omega arith)

  pub looks_at : white_pixel shape (cell_at angle.cos center.x center.x x) (cell_at angle.sin center.x center.y x)
      ≡ white_point shape (walk_point center angle x)
  unfolding turned sub
  looks_at =
      let v = past center.y center.y in
      let s = negative (scaled angle.sin) in
      let t = negative (scaled angle.cos) in
      let flat = mul binary32 angle.sin v in
      let level = past_value center.y center.y 0 (omega arith) (omega (arith, high limits inside)) in
      let sine = mul_zero_value s angle.sin v _ (2 ^ 29) (rules_of of).sine (pow_pos 29) level in
      let cosine = mul_zero_value t angle.cos v _ (2 ^ 29) (rules_of of).cosine (pow_pos 29) level in
      let same_column = size_without (mul binary32 angle.cos u) (neg flat) (real center.x) (not s) false center.x
      (mul-fits binary32 angle.cos u) (size_across angle.cos center.x x center.x (cosine_size of) (left limits inside) low (left limits inside))
      (neg_value s flat 0 1 sine)
      (real_value center.x (omega (arith, left limits inside))) in
      let same_row = size_without (mul binary32 angle.sin u) (mul binary32 angle.cos v) (real center.y) t false center.y
      (mul-fits binary32 angle.sin u) (size_across angle.sin center.x x center.y (sine_size of) (left limits inside) low (high limits inside))
      cosine
      (real_value center.y (omega (arith, high limits inside))) in
      sym (ap₂ (λ (p q : Float). white_pixel shape (to_unsigned 32 p) (to_unsigned 32 q)) same_column same_row)

  pub looked : {words marks after : List ℕ} {white : Bool} (column row : ℕ)
      → column ≡ cell_at angle.cos center.x center.x x → row ≡ cell_at angle.sin center.x center.y x
      → Ran (white_pixel shape column row) words marks white after
      → Ran (white_point shape (walk_point center angle x)) words marks white after
  looked {words} {marks} {after} {white} column row e f ran =
      subst (λ (p : Reads Bool). Ran p words marks white after) (ap₂ (white_pixel shape) e f ∙ looks_at) ran
