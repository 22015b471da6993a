-- How large w is, the whole part of a root √(n * 2 ^ l): it has more digits than the format keeps, and is far from overflow. And that a root is never half way
-- between two values. Assumes nothing.
use Rattle.std.proofs.Common.{ℕ, suc, ◌+◌, ◌-◌, ◌*◌, ◌^◌, ◌≤◌, ◌<◌, le_trans, le_of_eq, lt_of_lt_of_le, lt_of_le_of_lt, lt_irrefl, one-mul, mul_assoc, mul-le-mul_right, mul-lt-mul_of_pos_right, lt_of_mul-lt-mul_right, arith, ◌≡◌, sym, ap, ◌∙◌, ⊎_elim, pow_pos, pow-add, pow_mono}
use Rattle.std.proofs.Math.Nat.{pow-succ'}
use Rattle.std.specs.Float.Ieee.{prec, emax, low, size}
use Rattle.std.specs.Float.{Format, binary32, binary64}
use lib.Ieee.Digits.{size-lt, size_reaches}
use lib.Ieee.Fits.{two}
use Rattle.ieee.proofs.Numbers.{lt_of_square_lt, le_or_lt, Odd, square_mul}
use Rattle.ieee_sqrt.specs.IsqrtLaws.{IsRoot}
use Rattle.ieee_sqrt.proofs.Halfway.{no_square}

-- ---- the formats
pub wide : (f : Format) → prec f + prec f ≤ low f
wide binary32 = omega arith
wide binary64 = omega arith

pub far : (f : Format) → suc (emax f) ≤ emax f + emax f
far binary32 = omega arith
far binary64 = omega arith

-- ---- how large w is
pub root_large : (p l n w : ℕ) → p + p ≤ l → 0 < n → IsRoot (n * 2 ^ l) w → 2 ^ p ≤ w
root_large p l n w h some root =
    let one : 1 * 2 ^ l ≤ n * 2 ^ l = mul-le-mul_right (2 ^ l) some in
    let square : 2 ^ p * 2 ^ p ≤ n * 2 ^ l = le_trans (le_of_eq (sym (pow-add 2 p p)))
    (le_trans (pow_mono h) (le_trans (le_of_eq (sym (one-mul (2 ^ l)))) one)) in
    let lt : 2 ^ p < w + 1 = lt_of_square_lt (2 ^ p) (w + 1) (lt_of_le_of_lt square root.above) in
    omega arith

squared : (m l : ℕ) → m * m * l * l ≡ l * m * (l * m)
squared m l = omega arith

pub root_small : (m l n w : ℕ) → suc m ≤ m + m → n < 2 ^ suc m * 2 ^ l → IsRoot (n * 2 ^ l) w → w < 2 ^ (l + m)
root_small m l n w h less root =
    let cap : n * 2 ^ l < 2 ^ suc m * 2 ^ l * 2 ^ l = mul-lt-mul_of_pos_right less (pow_pos l) in
    let wider : 2 ^ suc m * 2 ^ l * 2 ^ l ≤ 2 ^ m * 2 ^ m * 2 ^ l * 2 ^ l = mul-le-mul_right (2 ^ l)
    (mul-le-mul_right (2 ^ l) (le_trans (pow_mono h) (le_of_eq (pow-add 2 m m)))) in
    lt_of_square_lt w (2 ^ (l + m))
    (lt_of_le_of_lt root.below
    (lt_of_lt_of_le cap
    (le_trans wider (le_of_eq (squared (2 ^ m) (2 ^ l) ∙ ap (λ (x : ℕ). x * x) (sym (pow-add 2 l m)))))))

pub record Places (p w : ℕ) : Type 0 where
  pub k : ℕ
  pub is : size w - p ≡ suc k
  pub low_w : 2 ^ (p + k) ≤ w

pub places : (p w : ℕ) → 2 ^ p ≤ w → Places p w
places p w h =
    let more : p < size w = ⊎_elim (λ l. absurd (lt_irrefl w (lt_of_lt_of_le (size-lt w) (le_trans (pow_mono l) h)))) (λ g. g) (le_or_lt (size w) p) in
    let last : p + (size w - p - 1) < size w = omega arith in
    record { k = size w - p - 1; is = omega arith; low_w = size_reaches w (p + (size w - p - 1)) last }

-- ---- one root: n is a * 2 ^ j, and w the whole part of √(n * 2 ^ l). The unit that is kept is 2 * d
pub first_digits : (p k h w : ℕ) → 1 ≤ p → 2 ^ (p + k) ≤ w → w < (h + 1) * (2 * 2 ^ k) → 2 ^ (p - 1) ≤ h
first_digits p k h w some low_w high =
    let order : p - 1 + suc k ≡ p + k = omega arith in
    let back : 2 ^ (p - 1) * (2 * 2 ^ k) ≡ 2 ^ (p + k) = ap (λ (x : ℕ). 2 ^ (p - 1) * x) (sym (pow-succ' 2 k)) ∙ sym (pow-add 2 (p - 1) (suc k))
    ∙ ap (λ (x : ℕ). 2 ^ x) order in
    let lt : 2 ^ (p - 1) < h + 1 = lt_of_mul-lt-mul_right (2 * 2 ^ k) (lt_of_le_of_lt (le_of_eq back) (lt_of_le_of_lt low_w high)) in
    omega arith

pub all_digits : (p : ℕ) → 1 ≤ p → 2 ^ p ≡ 2 * 2 ^ (p - 1)
all_digits p some = let order : p ≡ suc (p - 1) = omega arith in ap (λ (x : ℕ). 2 ^ x) order ∙ pow-succ' 2 (p - 1)

pub never_half_way : (p l k h a j n : ℕ) → n ≡ a * 2 ^ j → a < 2 * p → p ≤ h → Odd h * 2 ^ k * (Odd h * 2 ^ k) ≡ n * 2 ^ l → ⊥
never_half_way p l k h a j n is few low e =
    no_square h a (k + k) (j + l) (omega arith)
    (ap (λ (x : ℕ). Odd h * Odd h * x) (pow-add 2 k k)
    ∙ sym (square_mul (Odd h) (2 ^ k))
    ∙ e
    ∙ ap (λ (x : ℕ). x * 2 ^ l) is
    ∙ mul_assoc a (2 ^ j) (2 ^ l)
    ∙ ap (λ (x : ℕ). a * x) (sym (pow-add 2 j l)))

pub no_overflow : (q h d w e t : ℕ) → q ≤ h + 1 → h * (2 * d) ≤ w → 2 * d ≤ w → w < e → t ≡ 2 * e → q * (2 * d) < t
no_overflow q h d w e t near low small cap two = omega (arith, mul-le-mul_right (2 * d) near)
