-- Three things made of a function's values below a bound: whether one is true, their list, and the number with these bits. Assumes nothing.
use Rattle.std.specs.Prelude.{ℕ, zero, suc, ◌+◌, ◌*◌, ◌^◌, Bool, true, false, cond, List, [], ◌∷◌, ◌++◌}
use Rattle.reads.specs.Bits.{digit}

-- p holds of some number below n
unfoldable pub any_below : (ℕ → Bool) → ℕ → Bool
any_below p zero = false
any_below p (suc n) = cond (p n) true (any_below p n)

-- f 0, f 1, .. f (n - 1)
unfoldable pub firsts : (ℕ → ℕ) → ℕ → List ℕ
firsts f zero = []
firsts f (suc n) = firsts f n ++ (f n ∷ [])

-- the number with the bits p 0, p 1, .. p (n - 1), from the least significant
unfoldable pub number : (ℕ → Bool) → ℕ → ℕ
number p zero = 0
number p (suc n) = digit (p n) * 2 ^ n + number p n
