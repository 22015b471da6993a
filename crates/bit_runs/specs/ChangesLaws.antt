-- The trailing zeros of a word find its first set bit, and so the end of a run. Assumes nothing.
use Rattle.std.proofs.Common.{ℕ, zero, suc, ◌+◌, ◌-◌, ◌/◌, ◌%◌, ◌^◌, ◌≤◌, ◌<◌, div-one, arith, sym, ◌∙◌, shr-shr, Bool, true, false, ◌≡◌, refl, eqb}
use Rattle.std.proofs.Math.Nat.{add-zero}
use Rattle.std.proofs.Math.Bool.{not, xor}
use Rattle.std.proofs.Math.Path.{ap}
use Rattle.std.specs.Int.Count.{count_trailing_zeros, under}
use Rattle.reads.specs.Bits.{test_bit}
use Rattle.bit_runs.specs.BitRuns.{Changes}

-- ---- the first set bit

shift_one : (n i : ℕ) → n / 2 ^ suc i ≡ n / 2 / 2 ^ i
shift_one n i =
    let one : 1 + i ≡ suc i = omega arith in
    ap (λ (x : ℕ). n / 2 ^ x) (sym one) ∙ sym (shr-shr n 1 i)

-- below the trailing zeros no digit is set
pub trailing_clear : (k n j : ℕ) → j < count_trailing_zeros k n → n / 2 ^ j % 2 ≡ 0
unfolding count_trailing_zeros
trailing_clear zero n j h = absurd (omega arith)
trailing_clear (suc k) n j h = go (n % 2) refl j h (λ i. trailing_clear k (n / 2) i)
  where
    go : (d : ℕ) → n % 2 ≡ d → (i : ℕ) → i < under d (count_trailing_zeros k (n / 2))
        → ((l : ℕ) → l < count_trailing_zeros k (n / 2) → n / 2 / 2 ^ l % 2 ≡ 0) → n / 2 ^ i % 2 ≡ 0
    go zero e zero low rest = ap (λ (x : ℕ). x % 2) (div-one n) ∙ e
    go zero e (suc i) low rest = ap (λ (x : ℕ). x % 2) (shift_one n i) ∙ rest i (omega arith)
    go (suc d) e i low rest = absurd (omega arith)

-- and the next is, where there is one
pub trailing_set : (k n : ℕ) → count_trailing_zeros k n < k → n / 2 ^ count_trailing_zeros k n % 2 ≡ 1
unfolding count_trailing_zeros
trailing_set zero n h = absurd (omega arith)
trailing_set (suc k) n h = go (n % 2) refl h (trailing_set k (n / 2))
  where
    go : (d : ℕ) → n % 2 ≡ d → under d (count_trailing_zeros k (n / 2)) < suc k
        → (count_trailing_zeros k (n / 2) < k → n / 2 / 2 ^ count_trailing_zeros k (n / 2) % 2 ≡ 1) → n / 2 ^ under d (count_trailing_zeros k (n / 2)) % 2 ≡ 1
    go zero e low rest = ap (λ (x : ℕ). x % 2) (shift_one n (count_trailing_zeros k (n / 2))) ∙ rest (omega arith)
    go (suc zero) e low rest = ap (λ (x : ℕ). x % 2) (div-one n) ∙ e
    go (suc (suc d)) e low rest = absurd (omega arith)

-- ---- a run

xor_false : (a b : Bool) → xor a b ≡ false → a ≡ b
unfolding xor
xor_false true true e = refl
xor_false false false e = refl
xor_false true false e = e
xor_false false true e = sym e

xor_true : (a b : Bool) → xor a b ≡ true → a ≡ not b
unfolding xor
xor_true true true e = sym e
xor_true false false e = e
xor_true true false e = refl
xor_true false true e = refl

-- a word moved down
moved : (v d j : ℕ) → test_bit (v / 2 ^ d / 2 ^ 1) j ≡ test_bit v (suc (d + j))
unfolding test_bit
moved v d j =
    let place : d + 1 + j ≡ suc (d + j) = omega arith in
    rw (shr-shr v d 1, shr-shr v (d + 1) j, place)

module _ {image : ℕ → Bool} {colour : Bool} {from n v : ℕ} (changes : Changes image colour from n v) where
  -- fewer bits
  pub changes_fewer : {m : ℕ} → m ≤ n → Changes image colour from m v
  changes_fewer h = record { first = λ low. changes.first (omega arith); later = λ j low. changes.later j (omega arith) }

  -- up to the first change all bits are of the colour
  pub same_until : (d : ℕ) → d < n → d < count_trailing_zeros 64 v → image (from + d) ≡ colour
  unfolding test_bit
  same_until zero low clear =
      rw add-zero (xor_false _ _ (sym (changes.first low) ∙ ap (λ (x : ℕ). not (eqb x 0)) (trailing_clear 64 v 0 clear)))
  same_until (suc d) low clear =
      xor_false _ _ (sym (changes.later d low) ∙ ap (λ (x : ℕ). not (eqb x 0)) (trailing_clear 64 v (suc d) clear))
      ∙ same_until d (omega arith) (omega arith)

  -- and there it changes
  pub changes_at : (d : ℕ) → d < n → d < 64 → d ≡ count_trailing_zeros 64 v → image (from + d) ≡ not colour
  unfolding test_bit
  changes_at zero low short e =
      rw add-zero (xor_true _ _ (sym (changes.first low) ∙ ap (λ (x : ℕ). not (eqb x 0)) (ap (λ (d : ℕ). v / 2 ^ d % 2) e ∙ trailing_set 64 v (omega arith))))
  changes_at (suc d) low short e =
      xor_true _ _ (sym (changes.later d low) ∙ ap (λ (x : ℕ). not (eqb x 0)) (ap (λ (i : ℕ). v / 2 ^ i % 2) e ∙ trailing_set 64 v (omega arith)))
      ∙ ap not (same_until d (omega arith) (omega arith))

  -- the bits after it
  pub changes_after : (d : ℕ) → d < n → d < 64 → d ≡ count_trailing_zeros 64 v → Changes image (not colour) (from + d + 1) (n - (d + 1)) (v / 2 ^ d / 2 ^ 1)
  changes_after d low short e = record {
    first = λ more.
        let next : from + suc d ≡ from + d + 1 = omega arith in
        rw (← changes_at d low short e, ← next) (moved v d 0 ∙ ap (test_bit v) (omega arith) ∙ changes.later d (omega arith));
    later = λ j more.
        let next : from + suc (d + suc j) ≡ from + d + 1 + suc j = omega arith in
        let here : from + (d + suc j) ≡ from + d + 1 + j = omega arith in
        rw (← next, ← here) (moved v d (suc j) ∙ changes.later (d + suc j) (omega arith));
  }
