-- The bits of a range within a word are marked by a mask. Assumes nothing.
use Rattle.std.proofs.Common.{zero-mul, ◌∙◌, pow_pos, get_or-set_same, ℕ, zero, suc, ◌+◌, ◌-◌, ◌*◌, ◌^◌, ◌≤◌, ◌<◌, arith, List}
use Rattle.std.specs.Prelude.{◌≡◌, length, get_or}
use Rattle.std.proofs.Math.Path.{refl, sym, ap}
use Rattle.std.proofs.Math.Arith.{digits_div, digits_mod}
use Rattle.std.specs.Int.Bits.{bit_or, or_zero_r, or_shifted_r}
use Rattle.std.proofs.Math.ListN.{set, length-set}
use Rattle.std.proofs.Math.Pow.{pow-lt}
use Rattle.std.proofs.Math.Seq.{set-get_or, set-set}
use Rattle.reads.specs.Bits.{set_bit, mark, mark_all, range}
use Rattle.reads.proofs.BitsLaws.{mark_past}
use Rattle.reads.proofs.OrderLaws.{or_assoc}
use Rattle.reads.specs.MasksLaws.{mask}

twice : (m x : ℕ) → m * (2 * x) + x ≡ (2 * m + 1) * x
twice m x = omega arith

-- one bit, and the mask above it
mask_more : (w n p : ℕ) → bit_or (bit_or w (2 ^ p)) (mask n (p + 1)) ≡ bit_or w (mask (suc n) p)
mask_more w n p =
    or_assoc w (2 ^ p) (mask n (p + 1))
    ∙ ap (bit_or w) (or_shifted_r (2 ^ n - 1) (p + 1) (2 ^ p) (pow-lt (omega arith)) ∙ joined)
  where
    joined : (2 ^ n - 1) * 2 ^ (p + 1) + 2 ^ p ≡ (2 ^ suc n - 1) * 2 ^ p
    joined =
        let next : p + 1 ≡ suc p = omega arith in
        let up : 2 ^ (p + 1) ≡ 2 * 2 ^ p = rw next (omega arith) in
        let odd : 2 * (2 ^ n - 1) + 1 ≡ 2 ^ suc n - 1 = omega (arith, pow_pos n) in
        ap (λ (x : ℕ). (2 ^ n - 1) * x + 2 ^ p) up ∙ twice (2 ^ n - 1) (2 ^ p) ∙ ap (λ (x : ℕ). x * 2 ^ p) odd

module _ (q : ℕ) where
  mark_in : (ms : List ℕ) (p : ℕ) → p < 64 → mark ms (q * 64 + p) ≡ set ms q (bit_or (get_or ms q 0) (2 ^ p))
  unfolding mark set_bit
  mark_in ms p h = rw (digits_div q h, digits_mod q h)

  -- a range within word q, by its mask
  pub marked_word : (ms : List ℕ) (n p : ℕ) → q < length ms → n + p ≤ 64 → mark_all ms (range (q * 64 + p) n) ≡ set ms q (bit_or (get_or ms q 0) (mask n p))
  unfolding range mark_all
  marked_word ms zero p h fits =
      sym (ap (λ (v : ℕ). set ms q (bit_or (get_or ms q 0) v)) (zero-mul (2 ^ p)) ∙ ap (set ms q) (or_zero_r (get_or ms q 0)) ∙ set-get_or ms q 0)
  marked_word ms (suc n) p h fits =
      let next : q * 64 + p + 1 ≡ q * 64 + (p + 1) = omega arith in
      let w = bit_or (get_or ms q 0) (2 ^ p) in
      ap (λ (l : List ℕ). mark_all l (range (q * 64 + p + 1) n)) (mark_in ms p (omega arith))
      ∙ ap (λ (i : ℕ). mark_all (set ms q w) (range i n)) next
      ∙ marked_word (set ms q w) n (p + 1) (rw length-set h) (omega arith)
      ∙ set-set ms q w _
      ∙ ap (λ (v : ℕ). set ms q (bit_or v (mask n (p + 1)))) (get_or-set_same ms q w 0 h)
      ∙ ap (set ms q) (mask_more (get_or ms q 0) n p)

  -- past the last word nothing is marked
  pub marked_past : (ms : List ℕ) (n p : ℕ) → length ms ≤ q → n + p ≤ 64 → mark_all ms (range (q * 64 + p) n) ≡ ms
  unfolding range mark_all
  marked_past ms zero p h fits = refl
  marked_past ms (suc n) p h fits =
      let next : q * 64 + p + 1 ≡ q * 64 + (p + 1) = omega arith in
      ap (λ (l : List ℕ). mark_all l (range (q * 64 + p + 1) n)) (mark_past ms (q * 64 + p) (omega arith))
      ∙ ap (λ (i : ℕ). mark_all ms (range i n)) next ∙ marked_past ms n (p + 1) h (omega arith)
