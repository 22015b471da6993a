-- One run's test in whole numbers is the source's in f32, for totals to 2 ^ 20 and runs to 2 ^ 24. No case is tried out: rounding keeps the order,
-- and what is told apart lies far enough apart. With M the rounded module size and b the run, the f32 test compares the rounded |M - b| with the
-- rounded M / 2. Where |M - b| ≥ M / 2 it fails, since rounding keeps that. Otherwise M / 2 is larger by a 32nd at least, since total / 5 and M lie
-- between the same two 64ths: so it passes. Assumes nothing.
use Rattle.std.specs.Prelude.{◌≡◌, Bool, true, false, not, ◌&&◌, ℕ, ◌+◌, ◌-◌, ◌*◌, ◌/◌, ◌^◌, ◌≤◌, ◌<◌, T, ltb, eqb, Float}
use Rattle.std.proofs.Common.{sym, ap, ap₂, ◌∙◌, true≢false, inl, inr, le_trans, mul_comm, mul_assoc, mul_left_comm, mul-one, mul-pos, mul-le-mul_right, eq-or-lt_of_le, arith, ltb→lt, nltb→le, lit<, ne_eqb}
use Rattle.std.specs.Float.{nan, inf, fin, binary32}
use Rattle.std.specs.Float.Ieee.{up, down, round, neg, sub, div, lt}
use Rattle.std.specs.Float.Ieee.Fits.{down_pos}
use Rattle.std.specs.Float.Ieee.Exact.{HasValue}
use Rattle.std.specs.Float.Ieee.Positive.{num, den, den_pos}
use Rattle.std.specs.Float.Ieee.Scale.{round_same}
use Rattle.ieee.specs.Sign.{abs}
use Rattle.rxing_result_point.specs.Points.{real}
use Rattle.rxing_result_point.specs.PointsLaws.{real_value}
use Rattle.detector_widths.specs.Widths.{passes}
use Rattle.detector_widths.specs.WidthsF32.{module_size, passes_f32}
use Rattle.ieee.specs.RoundLaws.{Plain}
use Rattle.ieee.specs.SizeLaws.{apart, abs_add, neg_value}
use Rattle.detector_widths.specs.RoundedOrderLaws.{rounded_plain, round_not_less, round_under, round_over, round_less}

-- how far two numbers lie apart
abbrev gap : ℕ → ℕ → ℕ
gap a b = apart false a true b

-- ---- the operations, each as one fraction rounded
-- |a / c - b|
abs_sub : (x y : Float) (a c b : ℕ) → 0 < c → HasValue x false a c → HasValue y false b 1 → abs (sub binary32 x y) ≡ round binary32 false (gap a (b * c)) c
unfolding sub
abs_sub x y a c b C v w =
    abs_add x (neg y) false true a c b 1 C (lit< tt) v (neg_value false y b 1 w)
    ∙ ap₂ (λ (n d : ℕ). round binary32 false (gap n (b * c)) d) (mul-one a) (mul-one c)

-- (a / c) / k
div_whole : (x y : Float) (a c k : ℕ) → 0 < c → 0 < k → HasValue x false a c → HasValue y false k 1 → div binary32 x y ≡ round binary32 false a (c * k)
unfolding div
div_whole nan y a c k C K v w = absurd v
div_whole (inf s) y a c k C K v w = absurd v
div_whole (fin true m e) y a c k C K v w = absurd (true≢false v.0)
div_whole (fin false m e) nan a c k C K v w = absurd w
div_whole (fin false m e) (inf t) a c k C K v w = absurd w
div_whole (fin false m e) (fin true n d) a c k C K v w = absurd (true≢false w.0)
div_whole (fin false m e) (fin false n d) a c k C K v w =
    let some : 0 < k * down d = mul-pos K (down_pos d) in
    let whole : n * up d ≡ k * down d = sym (mul-one (n * up d)) ∙ w.1 in
    let not_zero : eqb n 0 ≡ false = ne_eqb n 0 (λ z. omega (arith, ap (λ (l : ℕ). l * up d) z)) in
    let top : m * up e * down d * (c * k) ≡ m * up e * c * (k * down d) = simp (mul_assoc, mul_comm, mul_left_comm) in
    let bottom : a * down e * (k * down d) ≡ a * (n * up d * down e) = rw whole (simp (mul_assoc, mul_comm, mul_left_comm)) in
    rw not_zero
    (round_same binary32 false (m * up e * down d) (n * up d * down e) a (c * k) (mul-pos (omega arith) (down_pos e)) (mul-pos C K)
    (top ∙ ap (λ (z : ℕ). z * (k * down d)) v.1 ∙ bottom))

-- ---- the order of |M - b| and M / 2 by the whole-number test, for M = a / c between the 64ths below and above total / 5
-- the 64ths above, thrice: where 3 total = 10 b, total / 5 is whole
thrice : (total b : ℕ) → 3 * total ≤ 10 * b → 3 * ((64 * total + 4) / 5) ≤ 128 * b
thrice total b h = elim (eq-or-lt_of_le h) [ inl e ↦ even e | inr l ↦ omega arith ]
  where
    cut : (i k : ℕ) → 5 * i ≤ 640 * k + 4 → i ≤ 128 * k
    cut i k h = omega arith

    even : 3 * total ≡ 10 * b → 3 * ((64 * total + 4) / 5) ≤ 128 * b
    even e =
        let k = total - 3 * b in
        let i = (64 * total + 4) / 5 in
        let whole : i ≤ 128 * k = cut i k (omega arith) in
        omega arith

module _ (total b a c : ℕ) (few : total ≤ 2 ^ 20) (small : b ≤ 2 ^ 24) (C : 0 < c) (low : 64 * total / 5 * c ≤ a * 64)
    (high : a * 64 ≤ (64 * total + 4) / 5 * c) where
  short : 10 * b ≤ total → a ≤ 2 * gap a (b * c)
  short h =
      let below : 128 * b * c ≤ 64 * total / 5 * c = mul-le-mul_right c (omega arith) in
      omega arith

  long : 3 * total ≤ 10 * b → a ≤ 2 * gap a (b * c)
  long h =
      let above : 3 * ((64 * total + 4) / 5) * c ≤ 128 * b * c = mul-le-mul_right c (thrice total b h) in
      omega arith

  within : total < 10 * b → 10 * b < 3 * total → gap a (b * c) * 64 + 2 * c ≤ 32 * a
  within h k =
      let above : ((64 * total + 4) / 5 + 4) * c ≤ 128 * b * c = mul-le-mul_right c (omega arith) in
      let below : (128 * b + 4) * c ≤ 3 * (64 * total / 5) * c = mul-le-mul_right c (omega arith) in
      omega arith

  abbrev distance : Float
  distance = round binary32 false (gap a (b * c)) c

  abbrev limit : Float
  limit = round binary32 false a (c * 2)

  size : a * 64 ≤ 2 ^ 24 * c
  size = le_trans high (mul-le-mul_right c (omega arith))

  too_far : a ≤ 2 * gap a (b * c) → lt distance limit ≡ false
  too_far h =
      round_not_less (gap a (b * c)) c a (c * 2) C (omega arith) (omega (arith, size, mul-le-mul_right c small)) (omega (arith, size))
      (omega (arith, mul-le-mul_right c h))

  near : gap a (b * c) * 64 + 2 * c ≤ 32 * a → lt distance limit ≡ true
  near h = round_less (gap a (b * c)) c a (c * 2) C (omega arith) (omega (arith, mul-le-mul_right (2 * c) h)) (omega (arith, size))

  decided : lt distance limit ≡ passes total b
  decided = go (ltb total (10 * b)) (ltb (10 * b) (3 * total)) (ltb→lt total (10 * b)) (nltb→le total (10 * b)) (ltb→lt (10 * b) (3 * total))
      (nltb→le (10 * b) (3 * total))
    where
      go : (x y : Bool) → (T x → total < 10 * b) → (T (not x) → 10 * b ≤ total) → (T y → 10 * b < 3 * total) → (T (not y) → 3 * total ≤ 10 * b)
          → lt distance limit ≡ x && y
      go true true p q r s = near (within (p tt) (r tt))
      go true false p q r s = too_far (long (s tt))
      go false y p q r s = too_far (short (q tt))

-- ---- the two tests are one
pub same_test : (total b : ℕ) → total ≤ 2 ^ 20 → b ≤ 2 ^ 24 → passes_f32 total b ≡ passes total b
unfolding passes_f32
same_test total b few small =
    let M = round binary32 false total 5 in
    let fits : total ≤ 2 ^ 24 * 5 = omega arith in
    let value : Plain M = rounded_plain total 5 (lit< tt) fits in
    let M_is : module_size total ≡ M = div_whole (real total) (real 5) total 1 5 (lit< tt) (lit< tt) (real_value total (omega arith))
    (real_value 5 (omega arith)) in
    ap (λ (x : Float). lt (abs (sub binary32 x (real b))) (div binary32 x (real 2))) M_is
    ∙ ap₂ lt (abs_sub M (real b) (num M) (den M) b (den_pos M) value (real_value b small))
    (div_whole M (real 2) (num M) (den M) 2 (den_pos M) (lit< tt) value (real_value 2 (omega arith)))
    ∙ decided total b (num M) (den M) few small (den_pos M)
    (round_over total 5 (64 * total / 5) (lit< tt) (omega arith) fits (omega arith))
    (round_under total 5 ((64 * total + 4) / 5) (lit< tt) (omega arith) fits (omega arith))
