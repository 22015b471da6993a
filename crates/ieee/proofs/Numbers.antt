-- Natural numbers: one of two orders, powers of two, squares. Assumes nothing.
use Rattle.std.proofs.Common.{◌≡◌, ℕ, ◌+◌, ◌*◌, ◌^◌, ◌<◌, ◌≤◌, Bool, true, false, not, T, leb, ◌⊎◌, inl, inr, ⊎_elim, lt_of_lt_of_le, lt_irrefl, mul-le-mul, arith, leb→le, pow_mono}
use Rattle.std.proofs.Math.Dec.{nleb→lt}
use Rattle.std.proofs.Math.Pow.{pow-lt}

pub le_or_lt : (i j : ℕ) → (i ≤ j) ⊎ (j < i)
le_or_lt i j = go (leb i j) (leb→le i j) (nleb→lt i j)
  where
    go : (b : Bool) → (T b → i ≤ j) → (T (not b) → j < i) → (i ≤ j) ⊎ (j < i)
    go true h k = inl (h tt)
    go false h k = inr (k tt)

pub exponent_le : (i j : ℕ) → 2 ^ i ≤ 2 ^ j → i ≤ j
exponent_le i j h = ⊎_elim (λ l. l) (λ g. absurd (lt_irrefl (2 ^ j) (lt_of_lt_of_le (pow-lt g) h))) (le_or_lt i j)

pub exponent_lt : (i j : ℕ) → 2 ^ i < 2 ^ j → i < j
exponent_lt i j h = ⊎_elim (λ l. absurd (lt_irrefl (2 ^ i) (lt_of_lt_of_le h (pow_mono l)))) (λ g. g) (le_or_lt j i)

-- ---- squares
pub square_lt : (a b : ℕ) → a < b → a * a < b * b
square_lt a b h = omega (arith, mul-le-mul h h)

pub lt_of_square_lt : (a b : ℕ) → a * a < b * b → a < b
lt_of_square_lt a b h = ⊎_elim (λ l. absurd (lt_irrefl (a * a) (lt_of_lt_of_le h (mul-le-mul l l)))) (λ g. g) (le_or_lt b a)

pub square_mul : (a c : ℕ) → a * c * (a * c) ≡ a * a * (c * c)
square_mul a c = omega arith

-- an odd number, and that its square is odd
abbrev pub Odd : ℕ → ℕ
Odd h = 2 * h + 1

pub odd_square : (h a t : ℕ) → Odd h * Odd h ≡ a * (2 * t) → ⊥
odd_square h a t e = omega arith
