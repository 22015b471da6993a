-- `crop_rows::reverse` meets its contract: each bit is followed through the three swaps, and antt computes the 64 places.
use Rattle.std.proofs.Common.{ℕ, ◌*◌, ◌/◌, ◌^◌, ◌<◌, mod-lt, lt_of_le_of_lt, false, not, ◌≡◌, refl, sym, ap, ◌∙◌, ltb-true, eqb-true, bit_and, eqb, ltb, lit<, pow_pos}
use Rattle.std.proofs.lemmas.Nat.{and_le_r, or_lt}
use Rattle.std.proofs.lemmas.Bool.{not-false}
use Rattle.reads.specs.Bits.{test_bit}
use Rattle.crop_padding.specs.Below.{any_below, number}
use Rattle.crop_padding.specs.AnyLaws.{none_holds}
use Rattle.crop_padding.specs.NumberLaws.{number_same, number_bits}
use Rattle.crop_rows.specs.Bytes.{mirrored, swap}
use Rattle.crop_rows.proofs.Swaps.{swap_origin, unfit, test_swap}
use Rattle.crop_rows.proofs.reverse.Goals as goal

-- every other group of 4, 2 and 1 bits
abbrev mask₄ : ℕ
mask₄ = 0x0f0f0f0f0f0f0f0f

abbrev mask₂ : ℕ
mask₂ = 0x3333333333333333

abbrev mask₁ : ℕ
mask₁ = 0x5555555555555555

fit₄ : any_below (unfit 4 mask₄) 64 ≡ false
unfolding any_below unfit test_bit
fit₄ = refl

fit₂ : any_below (unfit 2 mask₂) 64 ≡ false
unfolding any_below unfit test_bit
fit₂ = refl

fit₁ : any_below (unfit 1 mask₁) 64 ≡ false
unfolding any_below unfit test_bit
fit₁ = refl

-- the places on the way back from bit k, which stay in the word, and the last of them
abbrev third : ℕ → ℕ
third k = swap_origin 1 mask₁ k

abbrev second : ℕ → ℕ
second k = swap_origin 2 mask₂ (third k)

abbrev first : ℕ → ℕ
first k = swap_origin 4 mask₄ (second k)

third_in : any_below (λ k. not (ltb (third k) 64)) 64 ≡ false
unfolding any_below test_bit
third_in = refl

second_in : any_below (λ k. not (ltb (second k) 64)) 64 ≡ false
unfolding any_below test_bit
second_in = refl

first_is : any_below (λ k. not (eqb (first k) (mirrored k))) 64 ≡ false
unfolding any_below test_bit
first_is = refl

module _ (word : ℕ) where
  abbrev reversed : ℕ
  reversed = swap (swap (swap word 4 mask₄) 2 mask₂) 1 mask₁

  bit_is : (k : ℕ) → k < 64 → test_bit reversed k ≡ test_bit word (mirrored k)
  bit_is k h =
      let t : third k < 64 = ltb-true _ _ (not-false _ (none_holds (λ k. not (ltb (third k) 64)) 64 third_in h)) in
      let s : second k < 64 = ltb-true _ _ (not-false _ (none_holds (λ k. not (ltb (second k) 64)) 64 second_in h)) in
      let f : first k ≡ mirrored k = eqb-true _ _ (not-false _ (none_holds (λ k. not (eqb (first k) (mirrored k))) 64 first_is h)) in
      test_swap (swap (swap word 4 mask₄) 2 mask₂) 1 mask₁ k h (none_holds (unfit 1 mask₁) 64 fit₁ h)
      ∙ test_swap (swap word 4 mask₄) 2 mask₂ (third k) t (none_holds (unfit 2 mask₂) 64 fit₂ t)
      ∙ test_swap word 4 mask₄ (second k) s (none_holds (unfit 4 mask₄) 64 fit₄ s)
      ∙ ap (test_bit word) f

  swap_fits : (x d m : ℕ) → m < 2 ^ 64 → swap x d m < 2 ^ 64
  swap_fits x d m h = or_lt 64 _ _ (lt_of_le_of_lt (and_le_r (x / 2 ^ d) m) h) (mod-lt (bit_and x m * 2 ^ d) (pow_pos 64))

  reversed_is : reversed ≡ number (λ k. test_bit word (mirrored k)) 64
  reversed_is =
      sym (number_bits 64 (swap_fits (swap (swap word 4 mask₄) 2 mask₂) 1 mask₁ (lit< tt)))
      ∙ number_same (test_bit reversed) (λ k. test_bit word (mirrored k)) 64 bit_is

pub returns : goal.returns
returns c =
    c.swap.ensures ∙ ap (λ (n : ℕ). swap n 1 mask₁) (c.swap-pairs.ensures ∙ ap (λ (n : ℕ). swap n 2 mask₂) c.swap-halves.ensures) ∙ reversed_is c.args.word
