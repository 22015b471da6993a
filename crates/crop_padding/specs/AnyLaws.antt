-- Laws of a test at some number below a bound. Assumes nothing.
use Rattle.std.proofs.Math.Decide.{ℕ_discrete}
use Rattle.std.specs.Prelude.{Bool, ◌≡◌, ℕ, zero, suc, ◌≤◌, ◌<◌}
use Rattle.std.proofs.Math.Bool.{true, false, cond}
use Rattle.std.proofs.lemmas.Bool.{false≢true}
use Rattle.std.proofs.Math.Path.{refl}
use Rattle.std.proofs.Common.{arith, sym, ap, ap₂, ◌∙◌}
use Rattle.crop_padding.specs.Below.{any_below}

module _ (p : ℕ → Bool) where
  any_above : (b : Bool) (n : ℕ) → any_below p n ≡ true → cond b true (any_below p n) ≡ true
  any_above true n e = refl
  any_above false n e = e

  at_or_below : {i n : ℕ} → Dec (i ≡ n) → i < suc n → p i ≡ true → (i < n → any_below p n ≡ true) → cond (p n) true (any_below p n) ≡ true
  at_or_below {i} {n} (yes e) h here rest = ap (λ (b : Bool). cond b true (any_below p n)) (ap p (sym e) ∙ here)
  at_or_below {i} {n} (no other) h here rest = any_above (p n) n (rest (omega arith))

  -- a number of which it holds
  pub any_found : {i : ℕ} (n : ℕ) → i < n → p i ≡ true → any_below p n ≡ true
  unfolding any_below
  any_found zero h here = absurd (omega arith)
  any_found {i} (suc n) h here = at_or_below (ℕ_discrete i n) h here λ below. any_found n below here

  -- one of which it holds, where it holds of some
  pub any_witness : (n : ℕ) → any_below p n ≡ true → (i : ℕ) × (i < n) × (p i ≡ true)
  unfolding any_below
  any_witness zero some = absurd (false≢true some)
  any_witness (suc n) some = go (p n) refl some (any_witness n)
    where
      go : (b : Bool) → p n ≡ b → cond b true (any_below p n) ≡ true → (any_below p n ≡ true → (i : ℕ) × (i < n) × (p i ≡ true))
          → (i : ℕ) × (i < suc n) × (p i ≡ true)
      go true here e rest = (n, omega arith, here)
      go false here e rest = let found = rest e in (found.0, omega (arith, found.1), found.2)

  -- it holds of none exactly when it holds of no one
  pub none_holds : {i : ℕ} (n : ℕ) → any_below p n ≡ false → i < n → p i ≡ false
  none_holds {i} n none h = go (p i) refl
    where
      go : (b : Bool) → p i ≡ b → p i ≡ false
      go false e = e
      go true e = absurd (false≢true (sym none ∙ any_found n h e))

  pub none_below : (n : ℕ) → ((i : ℕ) → i < n → p i ≡ false) → any_below p n ≡ false
  unfolding any_below
  none_below zero each = refl
  none_below (suc n) each = rw (each n (omega arith)) (none_below n λ i h. each i (omega arith))

-- it holds of none from m on
pub any_until : (p : ℕ → Bool) (m n : ℕ) → m ≤ n → ((k : ℕ) → m ≤ k → k < n → p k ≡ false) → any_below p m ≡ any_below p n
unfolding any_below
any_until p m zero most none =
    let same : m ≡ 0 = omega arith in
    ap (any_below p) same
any_until p m (suc n) most none = go (ℕ_discrete m (suc n)) λ h. any_until p m n h λ k l less. none k l (omega arith)
  where
    go : Dec (m ≡ suc n) → (m ≤ n → any_below p m ≡ any_below p n) → any_below p m ≡ cond (p n) true (any_below p n)
    go (yes e) rest = ap (any_below p) e
    go (no other) rest = rw (none n (omega arith) (omega arith)) (rest (omega arith))

-- equal tests
pub any_same : (p q : ℕ → Bool) (n : ℕ) → ((k : ℕ) → k < n → p k ≡ q k) → any_below p n ≡ any_below q n
unfolding any_below
any_same p q zero same = refl
any_same p q (suc n) same = ap₂ (λ (b c : Bool). cond b true c) (same n (omega arith)) (any_same p q n λ k h. same k (omega arith))
