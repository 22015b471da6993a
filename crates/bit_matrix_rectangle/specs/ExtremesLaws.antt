-- Laws of the least and of the greatest number below a bound of which a test holds. Assumes nothing.
use Rattle.std.specs.Prelude.{ℕ, zero, suc, ◌≤◌, ◌<◌, Bool, true, false, cond, ◌≡◌, refl}
use Rattle.std.proofs.Math.Decide.{ℕ_discrete, dec_lt}
use Rattle.std.proofs.Common.{arith, sym, ap, ap₂, ◌∙◌}
use Rattle.std.proofs.lemmas.Bool.{false≢true}
use Rattle.bit_matrix_rectangle.specs.Rectangle.{least_below, greatest_below}

-- ---- the least

-- it holds of none before
pub least_before : (p : ℕ → Bool) (n : ℕ) {k : ℕ} → k < least_below p n → p k ≡ false
unfolding least_below
least_before p zero h = absurd (omega arith)
least_before p (suc n) {k} h = go (p 0) refl k h (λ i l. least_before (λ j. p (suc j)) n {k = i} l)
  where
    go : (b : Bool) → p 0 ≡ b → (i : ℕ) → i < cond b 0 (suc (least_below (λ j. p (suc j)) n))
        → ((j : ℕ) → j < least_below (λ j. p (suc j)) n → p (suc j) ≡ false) → p i ≡ false
    go true e i l rest = absurd (omega arith)
    go false e zero l rest = e
    go false e (suc i) l rest = rest i (omega arith)

pub least_le : (p : ℕ → Bool) (n : ℕ) {i : ℕ} → p i ≡ true → least_below p n ≤ i
least_le p n {i} holds = go (dec_lt i (least_below p n))
  where
    go : Dec (i < least_below p n) → least_below p n ≤ i
    go (yes h) = absurd (false≢true (sym (least_before p n h) ∙ holds))
    go (no h) = omega arith

-- ---- the greatest

-- it holds of none after
pub greatest_after : (p : ℕ → Bool) (n : ℕ) {k : ℕ} → greatest_below p n < k → k < n → p k ≡ false
unfolding greatest_below
greatest_after p zero h l = absurd (omega arith)
greatest_after p (suc n) {k} h l = go (p n) refl h (ℕ_discrete k n) (greatest_after p n {k = k})
  where
    go : (b : Bool) → p n ≡ b → cond b n (greatest_below p n) < k → Dec (k ≡ n) → (greatest_below p n < k → k < n → p k ≡ false) → p k ≡ false
    go true e past same rest = absurd (omega arith)
    go false e past (yes same) rest = ap p same ∙ e
    go false e past (no other) rest = rest past (omega arith)

pub le_greatest : (p : ℕ → Bool) (n : ℕ) {i : ℕ} → i < n → p i ≡ true → i ≤ greatest_below p n
le_greatest p n {i} below holds = go (dec_lt (greatest_below p n) i)
  where
    go : Dec (greatest_below p n < i) → i ≤ greatest_below p n
    go (yes h) = absurd (false≢true (sym (greatest_after p n h below) ∙ holds))
    go (no h) = omega arith

pub greatest_lt : (p : ℕ → Bool) (n : ℕ) → 0 < n → greatest_below p n < n
unfolding greatest_below
greatest_lt p zero some = absurd (omega arith)
greatest_lt p (suc zero) some = go (p 0)
  where
    go : (b : Bool) → cond b 0 0 < 1
    go true = omega arith
    go false = omega arith
greatest_lt p (suc (suc n)) some = go (p (suc n)) (greatest_lt p (suc n) (omega arith))
  where
    go : (b : Bool) → greatest_below p (suc n) < suc n → cond b (suc n) (greatest_below p (suc n)) < suc (suc n)
    go true rest = omega arith
    go false rest = omega arith

-- ---- equal tests

pub least_same : (p q : ℕ → Bool) (n : ℕ) → ((k : ℕ) → k < n → p k ≡ q k) → least_below p n ≡ least_below q n
unfolding least_below
least_same p q zero same = refl
least_same p q (suc n) same =
    ap₂ (λ (b : Bool) (r : ℕ). cond b 0 (suc r)) (same 0 (omega arith)) (least_same (λ k. p (suc k)) (λ k. q (suc k)) n λ k h. same (suc k) (omega arith))

pub greatest_same : (p q : ℕ → Bool) (n : ℕ) → ((k : ℕ) → k < n → p k ≡ q k) → greatest_below p n ≡ greatest_below q n
unfolding greatest_below
greatest_same p q zero same = refl
greatest_same p q (suc n) same = ap₂ (λ (b : Bool) (r : ℕ). cond b n r) (same n (omega arith)) (greatest_same p q n λ k h. same k (omega arith))
