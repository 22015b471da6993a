-- The square root rounded to a format f, from g, its leading digits, of which there is one more than f keeps. The digit past those that f keeps decides:
-- what comes after it cannot be all zeros when it is 1, since then g would be odd and the root exact. Assumes nothing.
use Rattle.std.proofs.Common.{ℕ, ◌+◌, ◌-◌, ◌*◌, ◌/◌, ◌%◌, ◌^◌, ◌≤◌, ◌<◌, eq-or-lt_of_le, le_trans, le_of_eq, le_antisymm, lt_of_lt_of_le, lt_irrefl, mul-pos, mul-le-mul_right, div-lt_iff_lt-mul, le-div_iff_mul-le, arith, ◌≡◌, sym, ap, ◌∙◌, Bool, true, false, cond, ⊎_elim, T, eqb, eqb→eq, pow_pos, pow-add, pow_mono}
use Rattle.std.proofs.Math.Nat.{mul-div-mul_right}
use Rattle.std.specs.Float.Ieee.{prec, low, size, units, round, fits}
use Rattle.std.specs.Float.{Format}
use lib.Ieee.Digits.{size-lt, size-le}
use lib.Ieee.Nearest.{closest, closest_same}
use lib.Ieee.Fits.{core, round_is, round-fits}
use Rattle.ieee_sqrt.specs.Sqrt.{round_root, isqrt}
use Rattle.ieee.proofs.Numbers.{le_or_lt}
use Rattle.ieee_sqrt.proofs.Closest.{half_digit}

-- ---- how many digits a number has
pub size_is : (n j : ℕ) → 2 ^ j ≤ n → n < 2 ^ (j + 1) → size n ≡ j + 1
size_is n j low high = le_antisymm (size-le n (j + 1) high)
    (⊎_elim (λ l. absurd (lt_irrefl n (lt_of_lt_of_le (size-lt n) (le_trans (pow_mono l) low)))) (λ g. omega arith) (le_or_lt (size n) j))

-- ---- the rounded root
cross : (a l k : ℕ) → a * l * (2 * k) ≡ a * (2 * l * k)
cross a l k = omega arith

-- of 2w, or 2w + 1 where the root is not exact
abbrev pub doubled : ℕ → ℕ → ℕ
doubled w n = 2 * w + cond (eqb (w * w) n) 0 1

pub at_most_one : (b : Bool) → cond b 0 1 ≤ 1
at_most_one true = omega arith
at_most_one false = omega arith

inexact : (b : Bool) → (T b → ⊥) → 1 ≤ cond b 0 1
inexact true h = absurd (h tt)
inexact false h = omega arith

-- `round_root` with its choice of unit taken out: the format keeps its `prec` leading digits of the whole part w
pub round_doubled : (f : Format) (n : ℕ)
    → round_root f n ≡ units f false (closest (doubled (isqrt n) n) (2 * 2 ^ (size (isqrt n) - prec f))) (size (isqrt n) - prec f)
unfolding round_root
round_doubled f n =
    let w = isqrt n in
    let a = doubled w n in
    let l = 2 ^ low f in
    let k = size w - prec f in
    let halved : a * l / (2 * l) ≡ w = mul-div-mul_right a 2 (pow_pos (low f)) ∙ half w (cond (eqb (w * w) n) 0 1) (at_most_one (eqb (w * w) n)) in
    round_is f false a (2 * l)
    ∙ ap (λ (x : ℕ). core f false (a * l) (2 * l) (size x - prec f)) halved
    ∙ ap (λ (x : ℕ). units f false x k)
    (closest_same (a * l) (2 * l * 2 ^ k) a (2 * 2 ^ k) (mul-pos (mul-pos (omega arith) (pow_pos (low f))) (pow_pos k))
    (mul-pos (omega arith) (pow_pos k)) (cross a l (2 ^ k)))
  where
    half : (w t : ℕ) → t ≤ 1 → (2 * w + t) / 2 ≡ w
    half w t h = omega arith

across : (a l c k : ℕ) → a * l * (c * k) ≡ a * (c * l * k)
across a l c k = omega arith

-- w has the leading digits g, one more than the format keeps, and i + j digits after them, of which j are finer than a unit
module _ (f : Format) (n w g i j : ℕ) (low_g : 2 ^ prec f ≤ g) (high_g : g < 2 ^ (prec f + 1)) (from : g * (2 ^ i * 2 ^ j) ≤ w)
    (to : w < (g + 1) * (2 ^ i * 2 ^ j)) (never_half : g % 2 ≡ 1 → g * (2 ^ i * 2 ^ j) * (g * (2 ^ i * 2 ^ j)) ≡ n → ⊥) where
  l : ℕ
  l = 2 ^ low f

  a : ℕ
  a = doubled w n

  a_high : a < 2 * ((g + 1) * (2 ^ i * 2 ^ j))
  unfolding a
  a_high = omega (arith, at_most_one (eqb (w * w) n))

  a_low : 2 * (g * (2 ^ i * 2 ^ j)) ≤ a
  unfolding a
  a_low = omega arith

  a_odd : g % 2 ≡ 1 → 2 * (g * (2 ^ i * 2 ^ j)) < a
  unfolding a
  a_odd h = ⊎_elim (λ e. omega (arith, at (sym e))) (λ l. omega arith) (eq-or-lt_of_le from)
    where
      at : w ≡ g * (2 ^ i * 2 ^ j) → 1 ≤ cond (eqb (w * w) n) 0 1
      at e = inexact (eqb (w * w) n) (λ t. never_half h (ap (λ (x : ℕ). x * x) (sym e) ∙ eqb→eq (w * w) n t))

  whole : ℕ
  whole = a / (2 * 2 ^ j)

  fine : 0 < 2 * 2 ^ j
  fine = omega (arith, pow_pos j)

  whole_low : g * 2 ^ i ≤ whole
  unfolding whole
  whole_low = (le-div_iff_mul-le fine).1 (omega (arith, a_low))

  whole_high : whole < (g + 1) * 2 ^ i
  unfolding whole
  whole_high = (div-lt_iff_lt-mul fine).1 (omega (arith, a_high))

  whole_size : size whole ≡ prec f + i + 1
  whole_size =
      size_is whole (prec f + i) (le_trans (le_of_eq (pow-add 2 (prec f) i)) (le_trans (mul-le-mul_right (2 ^ i) low_g) whole_low))
      (lt_of_lt_of_le whole_high
      (le_trans (mul-le-mul_right (2 ^ i) (g_room high_g)) (le_trans (le_of_eq (sym (pow-add 2 (prec f + 1) i))) (le_of_eq (ap (λ (x : ℕ). 2 ^ x) order)))))
    where
      g_room : g < 2 ^ (prec f + 1) → g + 1 ≤ 2 ^ (prec f + 1)
      g_room h = omega arith

      order : prec f + 1 + i ≡ prec f + i + 1
      order = omega arith

  pub leading : round f false (doubled w n) (2 * 2 ^ j * 2 ^ low f) ≡ units f false ((g + 1) / 2) (i + 1)
  unfolding a l whole
  leading =
      let b = 2 * 2 ^ j * l in
      let halved : a * l / b ≡ whole = mul-div-mul_right a (2 * 2 ^ j) (pow_pos (low f)) in
      let k : size (a * l / b) - prec f ≡ i + 1 = ap (λ (x : ℕ). size x - prec f) halved ∙ ap (λ (x : ℕ). x - prec f) whole_size ∙ less (prec f) in
      round_is f false a b
      ∙ ap (λ (x : ℕ). core f false (a * l) b x) k
      ∙ ap (λ (x : ℕ). units f false x (i + 1))
      (closest_same (a * l) (b * 2 ^ (i + 1)) a (2 * 2 ^ j * 2 ^ (i + 1)) (mul-pos (mul-pos fine (pow_pos (low f))) (pow_pos (i + 1)))
      (mul-pos fine (pow_pos (i + 1))) (across a l (2 * 2 ^ j) (2 ^ (i + 1)))
      ∙ half_digit a (2 * 2 ^ j * 2 ^ (i + 1)) (2 ^ i * 2 ^ j) g four a_low a_high a_odd)
    where
      less : (p : ℕ) → p + i + 1 - p ≡ i + 1
      less p = omega arith

      four : 2 * 2 ^ j * 2 ^ (i + 1) ≡ 4 * (2 ^ i * 2 ^ j)
      four = rw (pow-add 2 i 1) (omega arith)

pub root_fits : (f : Format) (n : ℕ) → T (fits f (round_root f n))
unfolding round_root
root_fits f n = round-fits f false (doubled (isqrt n) n) (2 * 2 ^ low f)
