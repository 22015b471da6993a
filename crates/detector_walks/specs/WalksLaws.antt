-- Why a walk to the right ends at every degree: so many steps on, the turned point lies in row 2,048 or above, or, where the sine is 0, in a column past those
-- of all words. So it ends at its first point that is black or past the last word, as the loop does (`right_ends`). And that what a step is lent is there for
-- the next one too. Assumes nothing.
use Rattle.std.specs.Prelude.{◌≡◌, Bool, cond, List, ℕ, zero, suc, ◌+◌, ◌-◌, ◌*◌, ◌^◌, ◌<◌, ◌≤◌, ℤ, pos, negsuc, nat_abs, length, Float}
use Rattle.std.proofs.Math.Path.{refl, ap, subst⁻¹}
use Rattle.std.proofs.Common.{sym, subst, ◌∙◌, inl, inr, eq-or-lt_of_le, mul-le-mul_right, arith, pow_pos, le-leb}
use Rattle.std.proofs.Math.Bool.{true, false}
use Rattle.std.specs.Float.{binary32}
use Rattle.std.specs.Float.Ieee.{add, sub, mul, to_unsigned}
use Rattle.std.specs.Float.Ieee.Exact.{HasValue}
use Rattle.sines.specs.declared.Angle.{Angle}
use Rattle.sines.specs.Sines.{angle_of}
use Rattle.sines.specs.Laws.{scaled, negative}
use Rattle.rxing_result_point.specs.declared.PointU.{PointU}
use Rattle.rxing_result_point.specs.Points.{real, past, turned}
use Rattle.rxing_result_point.specs.PointsLaws.{real_value}
use Rattle.ieee.specs.Sign.{abs}
use Rattle.reads.specs.Reads.{Reads, done, value}
use Rattle.reads.specs.Runs.{value_of}
use Rattle.reads.specs.ReadsLaws.{Always}
use Rattle.reads.proofs.ReadsLaws.{always_done, always_after, always_cond}
use Rattle.reads.proofs.RunsLaws.{value_of_bind}
use Rattle.bit_matrix.specs.declared.Shape.{Shape}
use Rattle.bit_matrix.specs.Shape.{size}
use Rattle.bit_matrix.specs.ShapeClauses.{Limits, Inside}
use Rattle.bit_matrix.specs.ShapeLaws.{image_kept}
use Rattle.bit_matrix.specs.Pixels.{offset}
use Rattle.detector_walks.specs.Walks.{walk_point, white_pixel, white_point, left_from, right_from, walk}
use Rattle.detector_walks.specs.WalksClauses.{OfDegree, Lent}
use Rattle.detector_walks.specs.StepsLaws.{steps_of, steps_right, steps_reach, steps_some, steps_few, rules}
use Rattle.detector_walks.specs.FarLaws.{mul_far, sub_whole, mul_zero_value, add_zero_far, sub_zero_far, add_far, add_back_far, cell_far}

-- ---- row and column, from what is known of the sine, the cosine and the two differences: c is the centre's row or column
module _ (sin cos u v : Float) (s t : Bool) (U W k c : ℕ) (sine : HasValue sin s U (2 ^ 29)) (cosine : HasValue cos t W (2 ^ 29))
    (right : HasValue u false k 1) (level : HasValue v false 0 1) (inside : c < 2048) where
  row_far : (z : Bool) → s ≡ z → cond z 4096 2048 * 2 ^ 29 ≤ U * k
      → 2048 ≤ to_unsigned 32 (abs (add binary32 (add binary32 (mul binary32 sin u) (mul binary32 cos v)) (real c)))
  row_far false e h =
      let flat = mul_zero_value t cos v W (2 ^ 29) cosine (pow_pos 29) level in
      let a = mul_far false sin u U (2 ^ 29) k 2048 (rw e at sine) right (pow_pos 29) (omega arith) (omega arith) h in
      let b = add_zero_far false t (mul binary32 sin u) (mul binary32 cos v) 2048 (omega arith) (omega arith) a flat in
      cell_far false _ 2048 (omega arith)
      (add_far (add binary32 (mul binary32 sin u) (mul binary32 cos v)) (real c) 2048 c (omega arith) (omega arith) b (real_value c (omega arith)))
  row_far true e h =
      let flat = mul_zero_value t cos v W (2 ^ 29) cosine (pow_pos 29) level in
      let a = mul_far true sin u U (2 ^ 29) k (2048 + c) (rw e at sine) right (pow_pos 29) (omega arith) (omega arith) (omega arith) in
      let b = add_zero_far true t (mul binary32 sin u) (mul binary32 cos v) (2048 + c) (omega arith) (omega arith) a flat in
      cell_far true _ 2048 (omega arith)
      (add_back_far (add binary32 (mul binary32 sin u) (mul binary32 cos v)) (real c) 2048 c (omega arith) (omega arith) b (real_value c (omega arith)))

  column_far : (z : Bool) (n : ℕ) → t ≡ z → W ≡ 2 ^ 29 → 0 < n → n + c ≤ k → k ≤ 2 ^ 24
      → n ≤ to_unsigned 32 (abs (add binary32 (sub binary32 (mul binary32 cos u) (mul binary32 sin v)) (real c)))
  column_far false n e one N h small =
      let flat = mul_zero_value s sin v U (2 ^ 29) sine (pow_pos 29) level in
      let a = mul_far false cos u (2 ^ 29) (2 ^ 29) k n (rw (e, one) at cosine) right (pow_pos 29) N (omega arith) (omega arith) in
      let b = sub_zero_far false s (mul binary32 cos u) (mul binary32 sin v) n N (omega arith) a flat in
      cell_far false _ n (omega arith)
      (add_far (sub binary32 (mul binary32 cos u) (mul binary32 sin v)) (real c) n c N (omega arith) b (real_value c (omega arith)))
  column_far true n e one N h small =
      let flat = mul_zero_value s sin v U (2 ^ 29) sine (pow_pos 29) level in
      let a = mul_far true cos u (2 ^ 29) (2 ^ 29) k (n + c) (rw (e, one) at cosine) right (pow_pos 29) (omega arith) (omega arith) (omega arith) in
      let b = sub_zero_far true s (mul binary32 cos u) (mul binary32 sin v) (n + c) (omega arith) (omega arith) a flat in
      cell_far true _ n (omega arith)
      (add_back_far (sub binary32 (mul binary32 cos u) (mul binary32 sin v)) (real c) n c N (omega arith) b (real_value c (omega arith)))

-- ---- a whole number's distance from the centre's is exact
pub past_value : (c n d : ℕ) → n ≡ c + d → n ≤ 2 ^ 24 → HasValue (past c n) false d 1
past_value c n d e h =
    subst (λ (z : ℕ). HasValue (past c n) false z 1) (omega arith)
    (sub_whole (real n) (real c) n c (real_value n h) (real_value c (omega arith)) (omega arith) h)

-- ---- where a walk to the right ends, as its loop says it
module _ (shape : Shape) (center : PointU) (angle : Angle) (words : List ℕ) where
  abbrev pub white_at : ℕ → Bool
  white_at x = value_of (white_point shape (walk_point center angle x)) words

  -- `column` is the first, from `first` on, whose point is not white: it is black or past the last word. Fewer than `steps` columns come before.
  pub record EndsAt (first steps column : ℕ) : Type 0 where
    pub least : first ≤ column
    pub most : column < first + steps
    pub stops : white_at column ≡ false
    pub passes : (x : ℕ) → first ≤ x → x < column → white_at x ≡ true

  abbrev pub next : ℕ → ℕ → Bool → Reads ℕ
  next fuel x white = cond white (right_from shape center angle fuel (x + 1)) (done x)

  pub from_step : (fuel x : ℕ) {b : Bool} → white_at x ≡ b → value_of (right_from shape center angle (suc fuel) x) words ≡ value_of (next fuel x b) words
  unfolding right_from
  from_step fuel x e =
      value_of_bind (white_point shape (walk_point center angle x)) (next fuel x) words ∙ ap (λ (b : Bool). value_of (next fuel x b) words) e

  -- within the first fuel + 1 of n + 1 steps
  abbrev EndsFrom : ℕ → ℕ → ℕ → Type 0
  EndsFrom fuel n x = EndsAt x (suc fuel) (value_of (right_from shape center angle (suc n) x) words)

  ends_here : (fuel n x : ℕ) → white_at x ≡ false → EndsFrom fuel n x
  unfolding value_of value
  ends_here fuel n x e = subst⁻¹ (EndsAt x (suc fuel)) (from_step n x e) (record {
    least = omega arith;
    most = omega arith;
    stops = e;
    passes = λ z low high. absurd (omega arith);
  })

  ends_later : (fuel n x : ℕ) → EndsFrom fuel n (x + 1) → (b : Bool) → white_at x ≡ b → EndsFrom (suc fuel) (suc n) x
  ends_later fuel n x rest false e = ends_here (suc fuel) (suc n) x e
  ends_later fuel n x rest true e =
      let column = value_of (right_from shape center angle (suc n) (x + 1)) words in
      let at : (z : ℕ) → x ≤ z → z < column → white_at z ≡ true =
      λ z low high. elim (eq-or-lt_of_le low) [
        | inl same ↦ ap white_at (sym same) ∙ e
        | inr more ↦ rest.passes z (omega arith) high
      ] in
      subst⁻¹ (EndsAt x (suc (suc fuel))) (from_step (suc n) x e) (record {
        least = omega (arith, rest.least);
        most = omega (arith, rest.most);
        stops = rest.stops;
        passes = at;
      })

  from_ends : (fuel n x : ℕ) → fuel ≤ n → white_at (x + fuel) ≡ false → EndsFrom fuel n x
  from_ends zero n x h stop = ends_here zero n x (ap white_at (omega arith) ∙ stop)
  from_ends (suc fuel) zero x h stop = absurd (omega arith)
  from_ends (suc fuel) (suc n) x h stop = ends_later fuel n x (from_ends fuel n (x + 1) (omega arith) (ap white_at (omega arith) ∙ stop)) (white_at x) refl

-- ---- past the last word
module _ {shape : Shape} (limits : Limits shape) (x y : ℕ) where
  past_rows : 2048 ≤ y → size shape ≤ offset shape x y
  past_rows h =
      let rows : shape.height * shape.row_words ≤ y * shape.row_words = mul-le-mul_right shape.row_words (omega (arith, limits.height_most)) in
      omega arith

  past_columns : 64 * size shape ≤ x → size shape ≤ offset shape x y
  past_columns h = omega arith

module _ {shape : Shape} (limits : Limits shape) (center : PointU) (inside : Inside shape center.x center.y) {angle : Angle} (of : OfDegree angle) where
  abbrev PastAt : ℕ → Type 0
  PastAt x = size shape ≤ offset shape (to_unsigned 32 (walk_point center angle x).x) (to_unsigned 32 (walk_point center angle x).y)

  -- ---- the walk's point, as many columns right of the centre as there are steps
  module _ (k : ℕ) (few : k ≤ 2 ^ 20) where
    right : HasValue (past center.x (center.x + k)) false k 1
    right = past_value center.x (center.x + k) k refl (omega (arith, limits.width_most, inside.column))

    level : HasValue (past center.y center.y) false 0 1
    level = past_value center.y center.y 0 (omega arith) (omega (arith, limits.height_most, inside.row))

    by_rows : (s : Bool) (n : ℕ) → HasValue angle.sin s n (2 ^ 29) → cond s 4096 2048 * 2 ^ 29 ≤ n * k → PastAt (center.x + k)
    unfolding turned
    by_rows s n sine far =
        past_rows limits _ _
        (row_far angle.sin angle.cos (past center.x (center.x + k)) (past center.y center.y) s (negative (scaled angle.cos))
        n (nat_abs (scaled angle.cos)) k center.y sine (rules of).cosine right level (omega (arith, limits.height_most, inside.row)) s refl far)

    by_columns : HasValue angle.sin false 0 (2 ^ 29) → nat_abs (scaled angle.cos) ≡ 2 ^ 29 → 64 * size shape + 2048 ≤ k → PastAt (center.x + k)
    unfolding turned
    by_columns sine one far =
        let z = negative (scaled angle.cos) in
        let n = 64 * size shape + 1 in
        let low : center.x < 2048 = omega (arith, limits.width_most, inside.column) in
        let column = column_far angle.sin angle.cos (past center.x (center.x + k)) (past center.y center.y) false z
        0 (nat_abs (scaled angle.cos)) k center.x sine (rules of).cosine right level low z n refl one (omega arith) (omega arith) (omega arith) in
        past_columns limits _ _ (omega (arith, column))

  walk_far : (u : ℤ) → HasValue angle.sin (negative u) (nat_abs u) (2 ^ 29) → (nat_abs u ≡ 0 → nat_abs (scaled angle.cos) ≡ 2 ^ 29)
      → steps_of shape u ≤ 2 ^ 20 → PastAt (center.x + steps_of shape u)
  unfolding steps_of
  walk_far (pos zero) sine flat few = by_columns _ few sine (flat refl) (omega arith)
  walk_far (pos (suc n)) sine flat few = by_rows _ few false (suc n) sine (steps_reach n (2048 * 2 ^ 29))
  walk_far (negsuc n) sine flat few = by_rows _ few true (suc n) sine (steps_reach n (4096 * 2 ^ 29))

  -- ---- so the walk has ended there, on every image
  module _ (words : List ℕ) where
    pub walk_stops : white_at shape center angle words (center.x + steps_right shape angle) ≡ false
    unfolding white_pixel value_of value
    walk_stops =
        let far = walk_far (scaled angle.sin) (rules of).sine (rules of).flat (omega (arith, steps_few of limits)) in
        rw (le-leb _ _ far) refl

-- the walk to the right ends at its first point that is not white, before its steps are used up: at every degree, on every image of the shape
pub right_ends : {shape : Shape} → Limits shape → (center : PointU) → Inside shape center.x center.y → (degree : ℕ) (words : List ℕ)
    → EndsAt shape center (angle_of degree) words (center.x + 1) (steps_right shape (angle_of degree)) (value_of (walk shape center (angle_of degree) false) words)
unfolding walk
right_ends {shape} limits center inside degree words =
    let angle = angle_of degree in
    let steps = steps_right shape angle in
    let some = steps_some shape (scaled angle.sin) in
    let last : center.x + steps ≡ center.x + 1 + (steps - 1) = omega (arith, some) in
    let all : suc (steps - 1) ≡ steps = omega (arith, some) in
    let of : OfDegree angle = record { degree = degree; is = refl } in
    let stop = walk_stops limits center inside of words in
    subst (λ (n : ℕ). EndsAt shape center angle words (center.x + 1) n (value_of (walk shape center angle false) words)) all
    (from_ends shape center angle words (steps - 1) (2 ^ 20 - 1) (center.x + 1) (omega (arith, steps_few of limits))
    (ap (white_at shape center angle words) (sym last) ∙ stop))

-- the walk to the left ends in its first column or left of it
left_within : (shape : Shape) (center : PointU) (angle : Angle) (x : ℕ) → Always (λ column. column ≤ x) (left_from shape center angle x)
unfolding left_from
left_within shape center angle zero = always_after _ _ λ _. always_done (omega arith)
left_within shape center angle (suc x) =
    always_after _ _ λ white. always_cond white (λ _. later (left_within shape center angle x)) (λ _. always_done (omega arith))
  where
    later : {p : Reads ℕ} → Always (λ column. column ≤ x) p → Always (λ column. column ≤ suc x) p
    later always = record { on = λ image. omega (arith, always.on image) }

pub left_ends : (shape : Shape) (center : PointU) (angle : Angle) → Always (λ column. column ≤ center.x) (walk shape center angle true)
unfolding walk
left_ends shape center angle = left_within shape center angle center.x

-- ---- what a step is lent, with the marks that it leaves
pub lent_on : {shape : Shape} {words marks after : List ℕ} {center : PointU} → Lent shape words marks center
    → length after ≡ length marks → Lent shape words after center
lent_on lent kept = record { image = image_kept lent.image kept; inside = lent.inside }
