-- A number is the least, or the greatest, below a bound of which a test holds. Assumes nothing.
use Rattle.std.proofs.Common.{ℕ, zero, suc, ◌≤◌, ◌<◌, arith, Bool, true, false, cond, ◌≡◌, refl, sym, ap, ◌∙◌}
use Rattle.std.proofs.lemmas.Bool.{false≢true}
use Rattle.std.proofs.Math.Decide.{ℕ_discrete}
use Rattle.bit_matrix_rectangle.specs.Rectangle.{least_below, greatest_below}
use Rattle.bit_matrix_rectangle.specs.ExtremesLaws.{least_le, le_greatest}

-- ---- the least

pub least_is : (p : ℕ → Bool) (n r : ℕ) → r ≤ n → ((k : ℕ) → k < r → p k ≡ false) → (r < n → p r ≡ true) → r ≡ least_below p n
unfolding least_below
least_is p zero r most before here = omega arith
least_is p (suc n) zero most before here = rw (here (omega arith)) refl
least_is p (suc n) (suc r) most before here =
    rw (before 0 (omega arith))
    (ap suc (least_is (λ k. p (suc k)) n r (omega arith) (λ k h. before (suc k) (omega arith)) (λ h. here (omega arith))))

-- it holds of it, where there is one
pub least_here : (p : ℕ → Bool) (n : ℕ) → least_below p n < n → p (least_below p n) ≡ true
unfolding least_below
least_here p zero h = absurd (omega arith)
least_here p (suc n) h = go (p 0) refl h (least_here (λ j. p (suc j)) n)
  where
    go : (b : Bool) → p 0 ≡ b → cond b 0 (suc (least_below (λ j. p (suc j)) n)) < suc n
        → (least_below (λ j. p (suc j)) n < n → p (suc (least_below (λ j. p (suc j)) n)) ≡ true)
        → p (cond b 0 (suc (least_below (λ j. p (suc j)) n))) ≡ true
    go true e l rest = e
    go false e l rest = rest (omega arith)

pub least_most : (p : ℕ → Bool) (n : ℕ) → least_below p n ≤ n
unfolding least_below
least_most p zero = omega arith
least_most p (suc n) = go (p 0) (least_most (λ k. p (suc k)) n)
  where
    go : (b : Bool) → least_below (λ k. p (suc k)) n ≤ n → cond b 0 (suc (least_below (λ k. p (suc k)) n)) ≤ suc n
    go true rest = omega arith
    go false rest = omega arith

-- ---- the greatest

pub greatest_is : (p : ℕ → Bool) (n : ℕ) {r : ℕ} → r < n → p r ≡ true → ((k : ℕ) → r < k → k < n → p k ≡ false) → r ≡ greatest_below p n
unfolding greatest_below
greatest_is p zero below here after = absurd (omega arith)
greatest_is p (suc n) {r} below here after = go (ℕ_discrete r n) λ h. greatest_is p n {r = r} h here λ k l m. after k l (omega arith)
  where
    go : Dec (r ≡ n) → (r < n → r ≡ greatest_below p n) → r ≡ cond (p n) n (greatest_below p n)
    go (yes e) rest = rw (ap p (sym e) ∙ here) e
    go (no other) rest = rw (after n (omega arith) (omega arith)) (rest (omega arith))

pub greatest_none : (p : ℕ → Bool) (n : ℕ) → ((k : ℕ) → k < n → p k ≡ false) → 0 ≡ greatest_below p n
unfolding greatest_below
greatest_none p zero none = refl
greatest_none p (suc n) none = rw (none n (omega arith)) (greatest_none p n λ k h. none k (omega arith))

-- it holds of it, where there is one
pub greatest_here : (p : ℕ → Bool) (n : ℕ) {i : ℕ} → i < n → p i ≡ true → p (greatest_below p n) ≡ true
unfolding greatest_below
greatest_here p zero below holds = absurd (omega arith)
greatest_here p (suc n) {i} below holds = go (p n) refl (ℕ_discrete i n) (λ h. greatest_here p n {i = i} h holds)
  where
    go : (b : Bool) → p n ≡ b → Dec (i ≡ n) → (i < n → p (greatest_below p n) ≡ true) → p (cond b n (greatest_below p n)) ≡ true
    go true e same rest = e
    go false e (yes same) rest = absurd (false≢true (sym e ∙ ap p (sym same) ∙ holds))
    go false e (no other) rest = rest (omega arith)

-- ---- both

pub least_greatest : (p : ℕ → Bool) (n : ℕ) {i : ℕ} → i < n → p i ≡ true → least_below p n ≤ greatest_below p n
least_greatest p n below holds = omega (arith, least_le p n holds, le_greatest p n below holds)
