-- `isqrt n` is the whole part of the square root of n, and what lies at or below, or at or above, that root. Nothing here is about floats. Assumes nothing.
use Rattle.std.specs.Prelude.{ℕ, zero, suc, ◌+◌, ◌*◌, ◌/◌, ◌^◌, ◌≤◌, ◌<◌, Bool, true, false, not, cond, T, leb}
use Rattle.std.proofs.Common.{lt_of_lt_of_le, lt_of_not-le, lt_irrefl, mul-le-mul, pow-suc, arith, subst, leb→le}
use Rattle.std.proofs.Math.Nat.{pow-le-pow_left}
use Rattle.std.proofs.Math.Dec.{nleb→lt}
use Rattle.std.specs.Float.Ieee.{size}
use Rattle.std.specs.Float.Ieee.Digits.{size-lt}
use Rattle.ieee_sqrt.specs.Sqrt.{last_digit, root_by, isqrt}

-- r is the whole part of n's root
pub record IsRoot (n r : ℕ) : Type 0 where
  pub below : r * r ≤ n
  pub above : n < (r + 1) * (r + 1)

last_digit_lem : (r n : ℕ) → r * r ≤ n → n < (r + 2) * (r + 2) → IsRoot n (last_digit r n)
last_digit_lem r n low high = go (leb (suc r * suc r) n) (leb→le (suc r * suc r) n) (nleb→lt (suc r * suc r) n)
  where
    go : (b : Bool) → (T b → suc r * suc r ≤ n) → (T (not b) → n < suc r * suc r) → IsRoot n (cond b (suc r) r)
    go true h k = record { below = h tt; above = omega arith }
    go false h k = record { below = low; above = omega (arith, k tt) }

root_by_is : (k n : ℕ) → n < 4 ^ k → IsRoot n (root_by k n)
unfolding root_by
root_by_is zero n h = record { below = omega arith; above = omega arith }
root_by_is (suc k) n h =
    let fewer : n < 4 ^ k * 4 = subst (λ (p : ℕ). n < p) (pow-suc 4 k) h in
    let is = root_by_is k (n / 4) (omega arith) in
    let s = root_by k (n / 4) in
    let low : s * s ≤ n / 4 = is.below in
    let high : n / 4 < (s + 1) * (s + 1) = is.above in
    last_digit_lem (2 * s) n (omega arith) (omega arith)

pub isqrt_is : (n : ℕ) → IsRoot n (isqrt n)
unfolding isqrt
isqrt_is n = root_by_is (size n) n (lt_of_lt_of_le (size-lt n) (pow-le-pow_left (omega arith) (size n)))

-- a is at most the root, or at least
pub root_at_least : {n w : ℕ} (a : ℕ) → IsRoot n w → a * a ≤ n → a ≤ w
root_at_least {n} {w} a root h =
    let under : a < w + 1 = lt_of_not-le (λ (k : w + 1 ≤ a). lt_irrefl n (lt_of_lt_of_le root.above (omega (arith, mul-le-mul k k)))) in
    omega arith

pub root_at_most : {n w : ℕ} (a : ℕ) → IsRoot n w → n ≤ a * a → w ≤ a
root_at_most {n} {w} a root h =
    let under : w < a + 1 = lt_of_not-le (λ (k : a + 1 ≤ w). lt_irrefl (a * a) (omega (arith, mul-le-mul k k, root.below))) in
    omega arith
