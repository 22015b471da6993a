-- Three bits of a word taken and marked by shift and mask, and three rows of three. Assumes nothing.
use Rattle.std.proofs.Common.{ℕ, zero, suc, ◌+◌, ◌*◌, ◌/◌, ◌%◌, ◌^◌, ◌≤◌, ◌<◌, Bool, not, List, [], ◌∷◌, ◌++◌, ◌≡◌, refl, sym, ap, ◌∙◌, arith, bit_and, bit_or, eqb, leb, lit<, length, get_or, set, shl_exact, shr-shr}
use mathlib.Core.List.{flat_map}
use Rattle.std.proofs.lemmas.Nat.{and_mask}
use Rattle.std.proofs.Math.Arith.{digits_div, digits_mod, mod-mul}
use Rattle.reads.specs.Bits.{digit, test_bit, bit_at, mark_all, range}
use Rattle.reads.proofs.BitsLaws.{digit_low, mark_all_append}
use Rattle.reads.proofs.MasksLaws.{marked_word}
use Rattle.bit_matrix.specs.declared.Shape.{Shape}
use Rattle.bit_matrix_nine.specs.AreaWords.{set_bits, packed, ones, TakenBits, HalfBlack, nine_of}

-- ---- three bits of one word

digit_of : (d : ℕ) → d < 2 → digit (not (eqb d 0)) ≡ d
digit_of zero h = refl
digit_of (suc zero) h = refl
digit_of (suc (suc d)) h = absurd (omega arith)

digit_test : (w j : ℕ) → digit (test_bit w j) ≡ w / 2 ^ j % 2
unfolding test_bit
digit_test w j = digit_of (w / 2 ^ j % 2) (omega arith)

-- the lowest three digits of a number
three_digits : (n a b c : ℕ) → a ≡ n % 2 → b ≡ n / 2 % 2 → c ≡ n / 4 % 2 → n % 8 ≡ a + 2 * (b + 2 * (c + 2 * 0))
three_digits n a b c e f g =
    omega (
      arith,
      mod-mul n {m = 4} {c = 2} (lit< tt) (lit< tt),
      mod-mul (n / 2) {m = 2} {c = 2} (lit< tt) (lit< tt),
      ap (λ (v : ℕ). v % 2) (shr-shr n 1 1),
    )

-- bit p + j of word q is bit j of the word shifted by p
shifted_bit : (q p j : ℕ) (words : List ℕ) → p + j < 64 → digit (bit_at words (q * 64 + (p + j))) ≡ get_or words q 0 / 2 ^ p / 2 ^ j % 2
unfolding bit_at
shifted_bit q p j words h =
    rw (digits_div q h, digits_mod q h) (digit_test (get_or words q 0) (p + j) ∙ ap (λ (v : ℕ). v % 2) (sym (shr-shr (get_or words q 0) p j)))

module _ (q p : ℕ) (fits : 3 + p ≤ 64) where
  three_packed : (words : List ℕ) → bit_and (get_or words q 0 / 2 ^ p) 7 ≡ packed words (range (q * 64 + p) 3)
  unfolding packed range
  three_packed words =
      let n = get_or words q 0 / 2 ^ p in
      let here : q * 64 + p ≡ q * 64 + (p + 0) = omega arith in
      let next : q * 64 + p + 1 ≡ q * 64 + (p + 1) = omega arith in
      let last : q * 64 + p + 1 + 1 ≡ q * 64 + (p + 2) = omega arith in
      let b₀ : digit (bit_at words (q * 64 + p)) ≡ n / 1 % 2 = rw here (shifted_bit q p 0 words (omega arith)) in
      let b₁ : digit (bit_at words (q * 64 + p + 1)) ≡ n / 2 % 2 = rw next (shifted_bit q p 1 words (omega arith)) in
      let b₂ : digit (bit_at words (q * 64 + p + 1 + 1)) ≡ n / 4 % 2 = rw last (shifted_bit q p 2 words (omega arith)) in
      and_mask n 3 ∙ three_digits n _ _ _ (omega (arith, b₀)) b₁ b₂

  three_marked : (marks : List ℕ) → q < length marks
      → set marks q (bit_or (get_or marks q 0) (7 * 2 ^ p % 2 ^ 64)) ≡ mark_all marks (range (q * 64 + p) 3)
  three_marked marks h = rw (shl_exact {a = 7} 3 p 64 (lit< tt) fits) (sym (marked_word q marks 3 p h fits))

  pub taken_three : (words marks : List ℕ) → length marks ≡ length words → q < length words
      → TakenBits words marks (range (q * 64 + p) 3)
      (bit_and (get_or words q 0 / 2 ^ p) 7) (set marks q (bit_or (get_or marks q 0) (7 * 2 ^ p % 2 ^ 64)))
  taken_three words marks same h = record { bits = three_packed words; marked = three_marked marks (omega arith) }

-- ---- three rows of three

-- three bits taken are a number below 8, with as many digits set as bits
module _ (words : List ℕ) where
  three_low : (i : ℕ) → packed words (range i 3) < 8
  unfolding packed range
  three_low i = omega (arith, digit_low (bit_at words i), digit_low (bit_at words (i + 1)), digit_low (bit_at words (i + 1 + 1)))

  three_ones : (i : ℕ) → ones (packed words (range i 3)) ≡ set_bits words (range i 3)
  unfolding packed set_bits range
  three_ones i = omega (arith, digit_low (bit_at words i), digit_low (bit_at words (i + 1)), digit_low (bit_at words (i + 1 + 1)))

  set_bits_append : (is js : List ℕ) → set_bits words (is ++ js) ≡ set_bits words is + set_bits words js
  unfolding set_bits
  set_bits_append [] js = omega arith
  set_bits_append (i ∷ is) js = omega (arith, set_bits_append is js)

pub taken_low : {words before after : List ℕ} {n : ℕ} (i : ℕ) → TakenBits words before (range i 3) n after → n < 8
taken_low {words} i taken = rw taken.bits (three_low words i)

-- one row after another
module _ (is js ks : List ℕ) where
  marked_rows : {m₁ m₂ m₃ : List ℕ} (m₀ : List ℕ) → m₁ ≡ mark_all m₀ is → m₂ ≡ mark_all m₁ js → m₃ ≡ mark_all m₂ ks
      → m₃ ≡ mark_all m₀ (is ++ (js ++ (ks ++ [])))
  unfolding mark_all
  marked_rows m₀ e f g =
      g ∙ ap (λ (l : List ℕ). mark_all l ks) (f ∙ ap (λ (l : List ℕ). mark_all l js) e)
      ∙ sym (mark_all_append m₀ is (js ++ (ks ++ [])) ∙ mark_all_append (mark_all m₀ is) js (ks ++ []) ∙ mark_all_append (mark_all (mark_all m₀ is) js) ks [])

  set_bits_rows : (words : List ℕ) → set_bits words is + set_bits words js + set_bits words ks ≡ set_bits words (is ++ (js ++ (ks ++ [])))
  unfolding set_bits
  set_bits_rows words =
      omega (arith, set_bits_append words is (js ++ (ks ++ [])), set_bits_append words js (ks ++ []), set_bits_append words ks [])

pub half_black : {words m₀ m₁ m₂ m₃ : List ℕ} {a b c : ℕ} {half : Bool} (shape : Shape) (x y p q r : ℕ)
    → p ≡ y * shape.row_words * 64 + x → q ≡ (y + 1) * shape.row_words * 64 + x → r ≡ (y + 1 + 1) * shape.row_words * 64 + x
    → TakenBits words m₀ (range p 3) a m₁ → TakenBits words m₁ (range q 3) b m₂ → TakenBits words m₂ (range r 3) c m₃
    → half ≡ leb 9 (2 * (ones a + ones b + ones c))
    → HalfBlack words m₀ (nine_of shape x y) half m₃
unfolding range flat_map
half_black {words} {m₀} {a = a} {b} {c} shape x y p q r e f g first second third h =
    let total : ones a + ones b + ones c ≡ set_bits words (range p 3) + set_bits words (range q 3) + set_bits words (range r 3) =
    omega (
      arith,
      ap ones first.bits ∙ three_ones words p,
      ap ones second.bits ∙ three_ones words q,
      ap ones third.bits ∙ three_ones words r,
    ) in
    rw (← e, ← f, ← g) (record {
      black = h ∙ ap (λ (n : ℕ). leb 9 (2 * n)) (total ∙ set_bits_rows (range p 3) (range q 3) (range r 3) words);
      marked = marked_rows (range p 3) (range q 3) (range r 3) m₀ first.marked second.marked third.marked;
    })
