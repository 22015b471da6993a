-- A test that passes at every number below a bound, computed once, and the law that it passes at each (`every_at`); so for two truth values that are
-- compared (`same_truth`). Assumes nothing.
use Rattle.std.specs.Prelude.{Bool, true, false, ◌&&◌, ◌≡◌, refl, ℕ, zero, suc, ◌<◌, T}
use Rattle.std.specs.Bool.{beq}
use Rattle.std.proofs.Common.{inl, inr, subst, sym, eq-or-lt_of_le, le_of_suc-le-suc, not-suc-le-zero}
use Rattle.std.specs.Float.Ieee.Fits.{and_l, and_r}

abbrev pub every : (ℕ → Bool) → ℕ → Bool
every test zero = true
every test (suc n) = test n && every test n

pub every_at : (test : ℕ → Bool) (n : ℕ) → T (every test n) → (k : ℕ) → k < n → T (test k)
every_at test zero t k h = absurd (not-suc-le-zero h)
every_at test (suc n) t k h = elim (eq-or-lt_of_le (le_of_suc-le-suc h)) [
  | inl e ↦ subst (λ (m : ℕ). T (test m)) (sym e) (and_l (test n) (every test n) t)
  | inr l ↦ every_at test n (and_r (test n) (every test n) t) k l
]

pub same_truth : (p q : Bool) → T (beq p q) → p ≡ q
same_truth true true t = refl
same_truth true false t = elim t [ ]
same_truth false true t = elim t [ ]
same_truth false false t = refl
