-- From a centre that lies between black pixels of its row the walks at a multiple of 5 degrees take fewer than 50,000 steps, left and right together: half
-- of that, squared, stays in 32 bits. At 0 and 180 degrees the walk to the right stays in the row and ends at the black pixel that lies that way; at the
-- others the rows end it. Assumes nothing.
use Rattle.std.specs.Prelude.{ℕ, ◌+◌, ◌-◌, ◌*◌, ◌^◌, ◌<◌, ◌≤◌, Bool, not, cond, List, ◌≡◌, Float}
use Rattle.std.proofs.Common.{arith, true≢false, ⊎_elim, sym, ap, subst, ◌∙◌, pow_pos}
use Rattle.std.proofs.Math.Decide.{dec_lt}
use Rattle.std.proofs.Math.Bool.{true, false}
use Rattle.std.proofs.Math.Path.{refl, ap₂, subst⁻¹}
use Rattle.std.specs.Float.{binary32}
use Rattle.std.specs.Float.Ieee.{add, sub, mul, of_bits, to_unsigned}
use Rattle.std.specs.Float.Ieee.Exact.{HasValue}
use Rattle.ieee.specs.Sign.{abs}
use Rattle.ieee.specs.SizeLaws.{apart, apart_zero, zero_apart}
use Rattle.reads.specs.Reads.{done, ◌>>=◌, value}
use Rattle.reads.proofs.ReadsLaws.{value_bind}
use Rattle.reads.specs.Bits.{bit_at}
use Rattle.reads.specs.Runs.{value_of}
use Rattle.reads.proofs.RunsLaws.{value_of_bind}
use Rattle.bit_matrix.specs.declared.Shape.{Shape}
use Rattle.bit_matrix.specs.ShapeClauses.{Limits, Inside}
use Rattle.bit_matrix.specs.FlankedClauses.{Flanked}
use Rattle.bit_matrix.specs.Pixels.{pixel, out_of_range}
use Rattle.sines.specs.declared.Angle.{Angle}
use Rattle.sines.specs.Sines.{sine_of, angle_of}
use Rattle.rxing_result_point.specs.declared.PointU.{PointU}
use Rattle.rxing_result_point.specs.Points.{real, past, turned}
use Rattle.rxing_result_point.specs.PointsLaws.{real_value}
use Rattle.detector_walks.specs.Walks.{white_pixel, walk, width_of, find_width_at_degree}
use Rattle.detector_walks.specs.StepsLaws.{steps_at_fifth}
use Rattle.detector_walks.specs.FarLaws.{mul_far, mul_whole, mul_zero_value, sub_zero_far, value_far}
use Rattle.detector_walks.specs.FarLaws.{Sized, add_sized, sub_zero_sized, cell_sized}
use Rattle.detector_walks.specs.WalksLaws.{past_value, white_at, EndsAt, right_ends}

-- ---- a point of the centre's row where the sine is 0 and the cosine 1, or -1 (t), k columns to the right of the centre before it is turned
module _ (sin cos u v : Float) (s t : Bool) (k c : ℕ) (sine : HasValue sin s 0 (2 ^ 29)) (cosine : HasValue cos t (2 ^ 29) (2 ^ 29))
    (right : HasValue u false k 1) (level : HasValue v false 0 1) (some : 0 < k) (near : k + c ≤ 2 ^ 24) where
  level_column : to_unsigned 32 (abs (add binary32 (sub binary32 (mul binary32 cos u) (mul binary32 sin v)) (real c))) ≡ apart t k false c
  level_column =
      let flat = mul_zero_value s sin v 0 (2 ^ 29) sine (pow_pos 29) level in
      let across = mul_whole t cos u (2 ^ 29) (2 ^ 29) k k cosine right (pow_pos 29) (omega arith) (omega arith) in
      let sized = sub_zero_sized t s (mul binary32 cos u) (mul binary32 sin v) k across flat (omega arith) in
      let far = mul_far t cos u (2 ^ 29) (2 ^ 29) k k cosine right (pow_pos 29) some (omega arith) (omega arith) in
      let along = sub binary32 (mul binary32 cos u) (mul binary32 sin v) in
      let signed : HasValue along t k 1 =
      value_far sized.sign t along k k sized.value (sub_zero_far t s (mul binary32 cos u) (mul binary32 sin v) k some (omega arith) far flat) in
      cell_sized (add binary32 along (real c)) (apart t k false c) (low t) (add_sized t false along (real c) k c signed (real_value c (omega arith)) near)
    where
      low : (t : Bool) → apart t k false c < 2 ^ 32
      low true = omega arith
      low false = omega arith

  level_row : (r : ℕ) → r ≤ 2 ^ 24 → to_unsigned 32 (abs (add binary32 (add binary32 (mul binary32 sin u) (mul binary32 cos v)) (real r))) ≡ r
  level_row r small =
      let first = mul_whole s sin u 0 (2 ^ 29) k 0 sine right (pow_pos 29) (omega arith) (omega arith) in
      let second = mul_zero_value t cos v (2 ^ 29) (2 ^ 29) cosine (pow_pos 29) level in
      let none : Sized 0 (add binary32 (mul binary32 sin u) (mul binary32 cos v)) =
      subst (λ (n : ℕ). Sized n (add binary32 (mul binary32 sin u) (mul binary32 cos v))) (apart_zero s t 0)
      (add_sized s t (mul binary32 sin u) (mul binary32 cos v) 0 0 first second (omega arith)) in
      cell_sized (add binary32 (add binary32 (mul binary32 sin u) (mul binary32 cos v)) (real r)) r (omega arith)
      (subst (λ (n : ℕ). Sized n (add binary32 (add binary32 (mul binary32 sin u) (mul binary32 cos v)) (real r))) (zero_apart none.sign false r)
      (add_sized none.sign false (add binary32 (mul binary32 sin u) (mul binary32 cos v)) (real r) 0 r none.value (real_value r small) (omega arith)))

-- ---- where a walk to the right has ended
ends_by : {shape : Shape} {center : PointU} {angle : Angle} {words : List ℕ} {first steps column : ℕ} → EndsAt shape center angle words first steps column
    → (x : ℕ) → first ≤ x → white_at shape center angle words x ≡ false → column ≤ x
ends_by {column = column} ends x least stop = go (dec_lt x column)
  where
    go : Dec (x < column) → column ≤ x
    go (yes before) = absurd (true≢false (sym (ends.passes x least before) ∙ stop))
    go (no after) = omega arith

black_stops : (shape : Shape) (words : List ℕ) (x y : ℕ) → value (pixel shape x y) (bit_at words) ≡ true → value_of (white_pixel shape x y) words ≡ false
unfolding white_pixel value_of value
black_stops shape words x y black = go (out_of_range shape x y)
  where
    go : (b : Bool) → value (cond b (done false) (pixel shape x y >>= λ (white : Bool). done (not white))) (bit_at words) ≡ false
    go true = refl
    go false = value_bind (pixel shape x y) _ (bit_at words) ∙ ap not black

module _ {shape : Shape} (limits : Limits shape) (center : PointU) (inside : Inside shape center.x center.y) (words : List ℕ) where
  abbrev right_end : ℕ → ℕ
  right_end degree = value_of (walk shape center (angle_of degree) false) words

  -- at a level angle, where the point k columns to the right of the centre is black, the walk goes no further
  level_stops : (t : Bool) (angle : Angle) → HasValue angle.sin false 0 (2 ^ 29) → HasValue angle.cos t (2 ^ 29) (2 ^ 29) → (k : ℕ) → 0 < k → k ≤ 2048
      → value (pixel shape (apart t k false center.x) center.y) (bit_at words) ≡ true → white_at shape center angle words (center.x + k) ≡ false
  unfolding turned
  level_stops t angle sine cosine k some few black =
      let x = center.x in
      let y = center.y in
      let right = past_value x (x + k) k refl (omega (arith, limits.width_most, inside.column)) in
      let level = past_value y y 0 (omega arith) (omega (arith, limits.height_most, inside.row)) in
      let near : k + x ≤ 2 ^ 24 = omega (arith, limits.width_most, inside.column) in
      let low : y ≤ 2 ^ 24 = omega (arith, limits.height_most, inside.row) in
      ap₂ (λ (a b : ℕ). value_of (white_pixel shape a b) words)
      (level_column angle.sin angle.cos (past x (x + k)) (past y y) false t k x sine cosine right level some near)
      (level_row angle.sin angle.cos (past x (x + k)) (past y y) false t k x sine cosine right level some near y low)
      ∙ black_stops shape words (apart t k false x) y black

  module _ (flanked : Flanked shape (bit_at words) center.x center.y) where
    -- at 0 degrees the walk has ended at the black pixel on the right, at 180 at the one on the left
    pub ends_at_0 : right_end 0 ≤ flanked.right
    unfolding sine_of of_bits
    ends_at_0 =
        let k = flanked.right - center.x in
        let most : k ≤ 2048 = omega (arith, flanked.right_inside, limits.width_most) in
        let there : apart false k false center.x ≡ flanked.right = omega (arith, flanked.right_after) in
        let stop = level_stops false (angle_of 0) (refl, refl) (refl, refl) k (omega (arith, flanked.right_after)) most (rw there flanked.right_black) in
        let least : center.x + 1 ≤ center.x + k = omega (arith, flanked.right_after) in
        omega (arith, flanked.right_after, ends_by (right_ends limits center inside 0 words) (center.x + k) least stop)

    pub ends_at_180 : right_end 180 + flanked.left ≤ center.x + center.x
    unfolding sine_of of_bits
    ends_at_180 =
        let k = center.x - flanked.left in
        let most : k ≤ 2048 = omega (arith, inside.column, limits.width_most) in
        let there : apart true k false center.x ≡ flanked.left = omega (arith, flanked.left_before) in
        let stop = level_stops true (angle_of 180) (refl, refl) (refl, refl) k (omega (arith, flanked.left_before)) most (rw there flanked.left_black) in
        let least : center.x + 1 ≤ center.x + k = omega (arith, flanked.left_before) in
        omega (arith, flanked.left_before, ends_by (right_ends limits center inside 180 words) (center.x + k) least stop)

    right_near : (i : ℕ) → i < 72 → right_end (5 * i) ≤ center.x + 47000
    right_near i h =
        let side = limits.width_most in
        ⊎_elim
        (λ e. subst⁻¹ (λ (j : ℕ). right_end (5 * j) ≤ center.x + 47000) e (omega (arith, ends_at_0, flanked.right_inside, side)))
        (⊎_elim
        (λ e. subst⁻¹ (λ (j : ℕ). right_end (5 * j) ≤ center.x + 47000) e (omega (arith, ends_at_180, inside.column, side)))
        (λ few. omega (arith, few, (right_ends limits center inside (5 * i) words).most)))
        (steps_at_fifth shape i h)

    -- the width at a multiple of 5 degrees
    pub short_length : (i : ℕ) → i < 72 → (value_of (find_width_at_degree shape center (5 * i)) words).length < 50000
    unfolding find_width_at_degree width_of value_of value
    short_length i h = rw (value_of_bind, value_of_bind) (omega (arith, right_near i h, limits.width_most, inside.column))
