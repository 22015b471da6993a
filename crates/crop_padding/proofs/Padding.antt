-- A row's padding by the number that the code tests. Assumes nothing.
use Rattle.std.specs.List.{list_any, range_with_len}
use Rattle.std.proofs.Common.{◌||◌, below_more, ℕ, zero, suc, ◌+◌, ◌*◌, ◌-◌, ◌/◌, ◌%◌, ◌^◌, ◌≤◌, ◌<◌, mod-eq_of_lt, arith, Bool, true, false, List, ◌≡◌, refl, sym, ap₂, ap, subst, ◌∙◌, get_or, shr_lt}
use Rattle.reads.specs.Bits.{test_bit, bit_at}
use Rattle.bit_matrix.specs.Shape.{row_words}
use Rattle.crop_sizes.specs.Sizes.{row_bytes}
use Rattle.crop_padding.specs.Padding.{file_bit, word_bit, row_padded, file_row, words_row}
use Rattle.crop_padding.specs.Below.{any_below, number}
use Rattle.crop_padding.specs.AnyLaws.{any_found, none_holds, none_below}
use Rattle.crop_padding.specs.NumberLaws.{number_low, low_clear, test_shr}

-- ---- what `any` answers over the numbers below n

module _ (p : ℕ → Bool) where
  range_any : (a n m : ℕ) → a + n ≡ m → ((k : ℕ) → k < a → p k ≡ false) → list_any p (range_with_len a n) ≡ any_below p m
  range_any a zero m e none = sym (none_below p m λ k h. none k (omega arith))
  range_any a (suc n) m e none = go (p a) refl λ here. range_any (a + 1) n m (omega arith) (below_more _ _ none here)
    where
      go : (b : Bool) → p a ≡ b → (p a ≡ false → list_any p (range_with_len (a + 1) n) ≡ any_below p m)
          → (b || list_any p (range_with_len (a + 1) n)) ≡ any_below p m
      go true here rest = sym (any_found p m (omega arith) here)
      go false here rest = rest here

  pub any_is : (n : ℕ) → list_any p (range_with_len 0 n) ≡ any_below p n
  any_is n = range_any 0 n n (omega arith) λ k h. absurd (omega arith)

-- ---- a row

-- clear bits make 0
number_clear : (p : ℕ → Bool) (n : ℕ) → ((k : ℕ) → k < n → p k ≡ false) → number p n ≡ 0
unfolding number
number_clear p zero clear = refl
number_clear p (suc n) clear = rw (clear n (omega arith)) (omega (arith, number_clear p n λ k h. clear k (omega arith)))

-- a number whose lowest n bits are clear has no remainder by 2 ^ n
clear_low : (m n : ℕ) → ((j : ℕ) → j < n → test_bit m j ≡ false) → m % 2 ^ n ≡ 0
clear_low m n clear = sym (number_low m n) ∙ number_clear (test_bit m) n clear

-- a row whose padding bits are the n lowest bits of a number m, in some order
module _ (bit : ℕ → ℕ → Bool) (w end y m : ℕ) (place : ℕ → ℕ)
    (below : (k : ℕ) → k < end - w → place k < end - w) (again : (k : ℕ) → k < end - w → place (place k) ≡ k)
    (is : (k : ℕ) → k < end - w → bit (w + k) y ≡ test_bit m (place k)) where
  clean : m % 2 ^ (end - w) ≡ 0 → row_padded bit w end y ≡ false
  unfolding row_padded
  clean e = none_below (λ k. bit (w + k) y) (end - w) λ k h. is k h ∙ low_clear m (end - w) e (below k h)

  clear : row_padded bit w end y ≡ false → m % 2 ^ (end - w) ≡ 0
  unfolding row_padded
  clear none =
      clear_low m (end - w) λ j h.
      ap (test_bit m) (sym (again j h)) ∙ sym (is (place j) (below j h)) ∙ none_holds (λ k. bit (w + k) y) (end - w) none (below j h)

  set : (m % 2 ^ (end - w) ≡ 0 → ⊥) → row_padded bit w end y ≡ true
  set ne = go (row_padded bit w end y) refl
    where
      go : (b : Bool) → row_padded bit w end y ≡ b → row_padded bit w end y ≡ true
      go true e = e
      go false e = absurd (ne (clear e))

-- ---- a row of a file, by its last byte

abbrev pub last_byte : ℕ → ℕ → ℕ
last_byte w y = 4 + (y * row_bytes w + (row_bytes w - 1))

module _ (file : List ℕ) (w y : ℕ) (some : 1 ≤ w) where
  abbrev spare : ℕ
  spare = 8 * row_bytes w - w

  byte_bit_lem : (k : ℕ) → k < spare → file_bit file w (w + k) y ≡ test_bit (get_or file (last_byte w y) 0) (spare - 1 - k)
  byte_bit_lem k h =
      let byte : 4 + y * row_bytes w + (w + k) / 8 ≡ last_byte w y = omega arith in
      let place : 7 - (w + k) % 8 ≡ spare - 1 - k = omega arith in
      ap₂ (λ (q r : ℕ). test_bit (get_or file q 0) r) byte place

  pub file_row_clean : get_or file (last_byte w y) 0 % 2 ^ spare ≡ 0 → file_row file w y ≡ false
  file_row_clean = clean (file_bit file w) w (8 * row_bytes w) y _ (λ k. spare - 1 - k) (λ k h. omega arith) (λ k h. omega arith) byte_bit_lem

  pub file_row_set : (get_or file (last_byte w y) 0 % 2 ^ spare ≡ 0 → ⊥) → file_row file w y ≡ true
  file_row_set = set (file_bit file w) w (8 * row_bytes w) y _ (λ k. spare - 1 - k) (λ k h. omega arith) (λ k h. omega arith) byte_bit_lem

-- ---- a row of words, by its last word

abbrev pub last_word : ℕ → ℕ → ℕ
last_word w y = y * row_words w + (row_words w - 1)

module _ (words : List ℕ) (w y : ℕ) (some : 1 ≤ w) (fits : get_or words (last_word w y) 0 < 2 ^ 64) where
  abbrev used : ℕ
  used = w - (row_words w - 1) * 64

  abbrev top : ℕ
  top = get_or words (last_word w y) 0 / 2 ^ used

  top_is : top % 2 ^ (64 * row_words w - w) ≡ top
  top_is =
      let whole : 64 ≡ 64 * row_words w - w + used = omega arith in
      mod-eq_of_lt (shr_lt (64 * row_words w - w) used (subst (λ (n : ℕ). get_or words (last_word w y) 0 < 2 ^ n) whole fits))

  word_bit_lem : (k : ℕ) → k < 64 * row_words w - w → word_bit words w (w + k) y ≡ test_bit top k
  unfolding bit_at
  word_bit_lem k h =
      let word : ((y * row_words w + (w + k) / 64) * 64 + (w + k) % 64) / 64 ≡ last_word w y = omega arith in
      let place : ((y * row_words w + (w + k) / 64) * 64 + (w + k) % 64) % 64 ≡ used + k = omega arith in
      ap₂ (λ (q r : ℕ). test_bit (get_or words q 0) r) word place ∙ sym (test_shr (get_or words (last_word w y) 0) used k)

  pub words_row_clean : top ≡ 0 → words_row words w y ≡ false
  words_row_clean e = clean (word_bit words w) w (64 * row_words w) y top (λ k. k) (λ k h. h) (λ k h. refl) word_bit_lem (top_is ∙ e)

  pub words_row_set : (top ≡ 0 → ⊥) → words_row words w y ≡ true
  words_row_set ne = set (word_bit words w) w (64 * row_words w) y top (λ k. k) (λ k h. h) (λ k h. refl) word_bit_lem λ e. ne (sym top_is ∙ e)
