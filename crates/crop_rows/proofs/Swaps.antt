-- Bits of a 64-bit word whose neighbouring groups of d bits change places, by a mask of every other group. Assumes nothing.
use Rattle.std.proofs.Common.{ℕ, zero, suc, ◌+◌, ◌*◌, ◌-◌, ◌/◌, ◌%◌, ◌^◌, ◌≤◌, ◌<◌, arith, Bool, true, false, not, cond, ◌||◌, ◌&&◌, ◌≡◌, refl, sym, ap, ap₂, ◌∙◌, lt-ltb, le-ltb, bit_and, eqb, ltb, shr-shr}
use Rattle.std.proofs.Math.Pow.{field, mod-mod-pow}
use Rattle.std.proofs.lemmas.Nat.{and_shr, and_mod, shl-shr}
use Rattle.std.proofs.Math.Decide.{dec_lt}
use Rattle.std.proofs.Math.Nat.{mul-mod_left}
use Rattle.reads.specs.Bits.{test_bit}
use Rattle.reads.proofs.BitsLaws.{test_or}
use Rattle.crop_padding.specs.NumberLaws.{low_clear, test_shr}
use Rattle.crop_rows.specs.Bytes.{swap}

-- ---- a bit of the code's operations

and_digit : (x y : ℕ) → x < 2 → y < 2 → not (eqb (bit_and x y) 0) ≡ (not (eqb x 0) && not (eqb y 0))
and_digit zero zero h l = refl
and_digit zero (suc zero) h l = refl
and_digit (suc zero) zero h l = refl
and_digit (suc zero) (suc zero) h l = refl
and_digit (suc (suc x)) y h l = absurd (omega arith)
and_digit zero (suc (suc y)) h l = absurd (omega arith)
and_digit (suc zero) (suc (suc y)) h l = absurd (omega arith)

test_and : (a b k : ℕ) → test_bit (bit_and a b) k ≡ (test_bit a k && test_bit b k)
unfolding test_bit
test_and a b k =
    ap (λ (n : ℕ). not (eqb n 0)) (ap (λ (n : ℕ). n % 2) (and_shr a b k) ∙ and_mod (a / 2 ^ k) (b / 2 ^ k) 1)
    ∙ and_digit (a / 2 ^ k % 2) (b / 2 ^ k % 2) (omega arith) (omega arith)

-- a shift up keeps the bits that stay in the word, and clears the lowest
test_kept : (n k : ℕ) → k < 64 → test_bit (n % 2 ^ 64) k ≡ test_bit n k
unfolding test_bit
test_kept n k h =
    let places : 64 ≡ 64 - suc k + 1 + k = omega arith in
    ap (λ (d : ℕ). not (eqb d 0))
    (ap (λ (s : ℕ). n % 2 ^ s / 2 ^ k % 2) places ∙ ap (λ (d : ℕ). d % 2) (field n (64 - suc k + 1) k) ∙ mod-mod-pow (n / 2 ^ k) (64 - suc k) 1)

test_shl : (n d k : ℕ) → d ≤ k → k < 64 → test_bit (n * 2 ^ d % 2 ^ 64) k ≡ test_bit n (k - d)
unfolding test_bit
test_shl n d k l h =
    let place : k ≡ d + (k - d) = omega arith in
    test_kept (n * 2 ^ d) k h
    ∙ ap (λ (q : ℕ). not (eqb (q % 2) 0))
    (ap (λ (j : ℕ). n * 2 ^ d / 2 ^ j) place ∙ sym (shr-shr (n * 2 ^ d) d (k - d)) ∙ ap (λ (q : ℕ). q / 2 ^ (k - d)) (shl-shr n d))

test_shl_low : (n d k : ℕ) → k < d → k < 64 → test_bit (n * 2 ^ d % 2 ^ 64) k ≡ false
test_shl_low n d k l h = test_kept (n * 2 ^ d) k h ∙ low_clear (n * 2 ^ d) d (mul-mod_left n (2 ^ d)) l

-- ---- the swap

-- the place from which bit k comes
abbrev pub swap_origin : ℕ → ℕ → ℕ → ℕ
swap_origin d m k = cond (test_bit m k) (d + k) (k - d)

-- two bits are the same
abbrev pub same : Bool → Bool → Bool
same true b = b
same false b = not b

-- the mask does not serve at bit k: it is the same as bit k - d, or it is one of the d lowest and clear
unfoldable pub unfit : ℕ → ℕ → ℕ → Bool
unfit d m k = cond (ltb k d) (not (test_bit m k)) (same (test_bit m k) (test_bit m (k - d)))

opposite : (a b : Bool) → same a b ≡ false → b ≡ not a
opposite true false e = refl
opposite false true e = refl
opposite true true e = e
opposite false false e = sym e

not_clear : (a : Bool) → not a ≡ false → a ≡ true
not_clear true e = refl
not_clear false e = sym e

nothing : (a : Bool) → (a && false) ≡ false
nothing true = refl
nothing false = refl

chosen : (a b m : Bool) → ((a && m) || (b && not m)) ≡ cond m a b
chosen true true true = refl
chosen true true false = refl
chosen true false true = refl
chosen true false false = refl
chosen false true true = refl
chosen false true false = refl
chosen false false true = refl
chosen false false false = refl

module _ (x d m k : ℕ) (word : k < 64) (fit : unfit d m k ≡ false) where
  upper : test_bit (bit_and x m * 2 ^ d % 2 ^ 64) k ≡ (test_bit x (k - d) && not (test_bit m k))
  unfolding unfit
  upper = go (dec_lt k d)
    where
      tested : Bool → Bool
      tested t = cond t (not (test_bit m k)) (same (test_bit m k) (test_bit m (k - d)))

      go : Dec (k < d) → test_bit (bit_and x m * 2 ^ d % 2 ^ 64) k ≡ (test_bit x (k - d) && not (test_bit m k))
      go (yes low) =
          let set : test_bit m k ≡ true = not_clear (test_bit m k) (sym (ap tested (lt-ltb k d low)) ∙ fit) in
          test_shl_low (bit_and x m) d k low word ∙ sym (nothing (test_bit x (k - d))) ∙ ap (λ (b : Bool). test_bit x (k - d) && not b) (sym set)
      go (no high) =
          let other : test_bit m (k - d) ≡ not (test_bit m k) =
          opposite (test_bit m k) (test_bit m (k - d)) (sym (ap tested (le-ltb k d (omega arith))) ∙ fit) in
          test_shl (bit_and x m) d k (omega arith) word ∙ test_and x m (k - d) ∙ ap (λ (b : Bool). test_bit x (k - d) && b) other

  at_origin : (b : Bool) → cond b (test_bit x (d + k)) (test_bit x (k - d)) ≡ test_bit x (cond b (d + k) (k - d))
  at_origin true = refl
  at_origin false = refl

  pub test_swap : test_bit (swap x d m) k ≡ test_bit x (swap_origin d m k)
  test_swap =
      test_or (bit_and (x / 2 ^ d) m) (bit_and x m * 2 ^ d % 2 ^ 64) k
      ∙ ap₂ ◌||◌ (test_and (x / 2 ^ d) m k ∙ ap (λ (b : Bool). b && test_bit m k) (test_shr x d k)) upper
      ∙ chosen (test_bit x (d + k)) (test_bit x (k - d)) (test_bit m k) ∙ at_origin (test_bit m k)
