-- What binary32's rounding does to the order of fractions up to 2 ^ 24: it is kept, and fractions a 32nd apart stay apart.
-- A rounded value is held against 64ths, which the format has exactly. Assumes nothing.
use Rattle.std.specs.Prelude.{◌≡◌, refl, true, false, ℕ, zero, suc, ◌+◌, ◌*◌, ◌/◌, ◌^◌, ◌≤◌, ◌<◌, Float}
use Rattle.std.proofs.Common.{sym, ◌∙◌, le_refl, lt_of_lt_of_le, mul_assoc, mul-pos, mul-le-mul_right, mul-lt-mul_of_pos_right, div-mul-le_self, div-lt_iff_lt-mul, le_of_mul-le-mul_right, arith, lit<, lit≤, pow_pos, le-ltb, lt-ltb}
use Rattle.std.proofs.Math.Nat.{lt-div-mul-add}
use Rattle.std.specs.Float.{binary32}
use Rattle.std.specs.Float.Ieee.{round, lt}
use Rattle.std.specs.Float.Ieee.Exact.{HasValue, round_exact}
use Rattle.std.specs.Float.Ieee.Order.{transfer, round_mono}
use Rattle.std.specs.Float.Ieee.Positive.{num, den, den_pos, value→cross}
use Rattle.ieee.specs.RoundLaws.{Plain, round_plain, crossed}

-- a fraction up to 2 ^ 24 rounds to a value that is finite and not negative
pub rounded_plain : (a b : ℕ) → 0 < b → a ≤ 2 ^ 24 * b → Plain (round binary32 false a b)
rounded_plain a b B h = round_plain binary32 (2 ^ 24) a b (le_refl (2 ^ 24)) B h

-- ---- the order is kept: where c / d ≤ a / b, no rounding makes a / b the smaller one
pub round_not_less : (a b c d : ℕ) → 0 < b → 0 < d → a ≤ 2 ^ 24 * b → c ≤ 2 ^ 24 * d → c * b ≤ a * d
    → lt (round binary32 false a b) (round binary32 false c d) ≡ false
round_not_less a b c d B D h k l =
    let x = round binary32 false a b in
    let y = round binary32 false c d in
    let p : Plain x = rounded_plain a b B h in
    let q : Plain y = rounded_plain c d D k in
    (crossed x y p q).less ∙ le-ltb (num x * den y) (num y * den x) ((crossed y x q p).most (round_mono binary32 c d a b D B l))

-- ---- 64ths, each 2 ^ 143 times the format's smallest value
exact : (n : ℕ) → n < 2 ^ 24 → HasValue (round binary32 false n 64) false n 64
exact n h =
    round_exact binary32 false n 64 n 143 (lit< tt) h
    (lt_of_lt_of_le (mul-lt-mul_of_pos_right h (pow_pos 143)) (lit≤ tt))
    (sym (mul_assoc n (2 ^ 143) 64))

module _ (a b n : ℕ) (B : 0 < b) (small : n < 2 ^ 24) (fits : a ≤ 2 ^ 24 * b) where
  abbrev rounded : Float
  rounded = round binary32 false a b

  abbrev sixty_fourth : Float
  sixty_fourth = round binary32 false n 64

  plain : Plain rounded
  plain = rounded_plain a b B fits

  exactly : num sixty_fourth * 64 ≡ n * den sixty_fourth
  exactly = value→cross sixty_fourth n 64 (exact n small)

  pub round_under : a * 64 ≤ n * b → num rounded * 64 ≤ n * den rounded
  round_under h =
      transfer (num rounded) n (den rounded) 64 (num rounded) (num sixty_fourth) (den rounded) (den sixty_fourth) (den_pos rounded)
      (den_pos sixty_fourth) refl (sym exactly)
      ((crossed rounded sixty_fourth plain (rounded_plain n 64 (lit< tt) (omega arith))).most (round_mono binary32 a b n 64 B (lit< tt) h))

  pub round_over : n * b ≤ a * 64 → n * den rounded ≤ num rounded * 64
  round_over h =
      transfer n (num rounded) 64 (den rounded) (num sixty_fourth) (num rounded) (den sixty_fourth) (den rounded) (den_pos sixty_fourth)
      (den_pos rounded) (sym exactly) refl
      ((crossed sixty_fourth rounded (rounded_plain n 64 (lit< tt) (omega arith)) plain).most (round_mono binary32 n 64 a b (lit< tt) B h))

-- ---- fractions a 32nd apart stay apart, since two 64ths lie between them
cross : (x y c d n : ℕ) → 0 < c → 0 < d → x * 64 ≤ n * c → suc n * d ≤ y * 64 → x * d < y * c
cross x y c d n C D p q =
    let low : x * 64 * d ≤ n * c * d = mul-le-mul_right d p in
    let high : suc n * d * c ≤ y * 64 * c = mul-le-mul_right c q in
    let some : 0 < c * d = mul-pos C D in
    omega arith

module _ (a b c d : ℕ) (B : 0 < b) (D : 0 < d) (apart : a * 64 * d + 2 * b * d ≤ c * 64 * b) where
  -- with k the 64ths of c / d, rounded down
  apart_at : (k : ℕ) → k < 2 ^ 24 → k * d ≤ c * 64 → c * 64 < k * d + d → lt (round binary32 false a b) (round binary32 false c d) ≡ true
  apart_at zero few low high =
      let most : c * 64 * b < d * b = mul-lt-mul_of_pos_right (omega arith) B in
      absurd (omega arith)
  apart_at (suc n) few low high =
      let x = round binary32 false a b in
      let y = round binary32 false c d in
      let most : c * 64 * b < (suc n * d + d) * b = mul-lt-mul_of_pos_right high B in
      let wide : a * 64 * d ≤ n * b * d = omega arith in
      let under : a * 64 ≤ n * b = le_of_mul-le-mul_right wide D in
      let fits_a : a ≤ 2 ^ 24 * b = omega (arith, mul-le-mul_right b few) in
      let fits_c : c ≤ 2 ^ 24 * d = omega (arith, mul-le-mul_right d few) in
      (crossed x y (rounded_plain a b B fits_a) (rounded_plain c d D fits_c)).less
      ∙ lt-ltb (num x * den y) (num y * den x)
      (cross (num x) (num y) (den x) (den y) n (den_pos x) (den_pos y)
      (round_under a b n B (omega arith) fits_a under) (round_over c d (suc n) D few fits_c low))

  pub round_less : c * 64 < 2 ^ 24 * d → lt (round binary32 false a b) (round binary32 false c d) ≡ true
  round_less small = apart_at (c * 64 / d) ((div-lt_iff_lt-mul D).1 small) (div-mul-le_self (c * 64) d) (lt-div-mul-add D)
