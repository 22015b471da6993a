-- The pixels of an accepted image by its words, and the first and last set bit of a word. Assumes nothing.
use Rattle.std.proofs.Common.{ℕ, suc, ◌+◌, ◌*◌, ◌-◌, ◌/◌, ◌%◌, ◌^◌, ◌≤◌, ◌<◌, pow-suc, arith, true, false, not, List, ◌≡◌, refl, sym, ap, ap₂, ◌∙◌, eq-eqb, ne_eqb, eqb-true, eqb, get_or}
use Rattle.std.proofs.Math.Pow.{high}
use Rattle.std.proofs.lemmas.Nat.{leading_top}
use Rattle.std.proofs.lemmas.Bool.{false≢true, eqb-false, not-true, not-false}
use Rattle.std.proofs.Math.Decide.{dec_lt}
use lib.Count.{count_leading_zeros, count_trailing_zeros}
use Rattle.reads.specs.Bits.{test_bit, bit_at}
use Rattle.reads.proofs.BitsLaws.{test_zero}
use Rattle.bit_matrix.specs.declared.Shape.{Shape}
use Rattle.bit_matrix.specs.Shape.{row_words}
use Rattle.bit_matrix.specs.PixelsLaws.{ran_pixel}
use Rattle.crop_padding.specs.AnyLaws.{none_holds, none_below}
use Rattle.crop_padding.specs.NumberLaws.{test_past}
use Rattle.crop_padding.specs.Padding.{word_bit, row_padded}
use Rattle.bit_runs.specs.ChangesLaws.{trailing_clear, trailing_set}
use Rattle.bit_matrix_rectangle.specs.Rectangle.{black_at, black_column}
use Rattle.bit_matrix_rectangle.specs.RectangleClauses.{ImageAccepted, is_set}

-- ---- a word

-- a word that is 0 has no set bit
pub zero_white : (v : ℕ) → v ≡ 0 → (k : ℕ) → test_bit v k ≡ false
zero_white v none k = ap (λ (n : ℕ). test_bit n k) none ∙ test_zero k

module _ (v : ℕ) (some : v ≡ 0 → ⊥) (fits : v < 2 ^ 64) where
  -- the last set bit
  pub highest : (j : ℕ) × (count_leading_zeros 64 v + suc j ≡ 64) × (test_bit v j ≡ true) × ((i : ℕ) → j < i → test_bit v i ≡ false)
  unfolding test_bit
  highest =
      let top = leading_top 64 v (omega (arith, some)) fits in
      let j : ℕ = top.0 in
      let below : v - 2 ^ j < 2 ^ j = omega (arith, top.2, top.3, pow-suc 2 j) in
      let whole : 1 * 2 ^ j + (v - 2 ^ j) ≡ v = omega (arith, top.2) in
      let one : v / 2 ^ j ≡ 1 = ap (λ (n : ℕ). n / 2 ^ j) (sym whole) ∙ high 1 j below in
      (j, top.1, ap (λ (n : ℕ). not (eqb (n % 2) 0)) one, λ i past. test_past (suc j) top.3 past)

  -- the first
  pub lowest : (count_trailing_zeros 64 v < 64) × (test_bit v (count_trailing_zeros 64 v) ≡ true)
  unfolding test_bit
  lowest = go (dec_lt (count_trailing_zeros 64 v) 64)
    where
      go : Dec (count_trailing_zeros 64 v < 64) → (count_trailing_zeros 64 v < 64) × (test_bit v (count_trailing_zeros 64 v) ≡ true)
      go (yes h) = (h, ap (λ (n : ℕ). not (eqb n 0)) (trailing_set 64 v h))
      go (no h) =
          absurd
          (false≢true (sym (ap (λ (n : ℕ). not (eqb n 0)) (trailing_clear 64 v highest.0 (omega (arith, highest.1)))) ∙ highest.2))

pub test_clear : (v k : ℕ) → k < count_trailing_zeros 64 v → test_bit v k ≡ false
unfolding test_bit
test_clear v k h = ap (λ (n : ℕ). not (eqb n 0)) (trailing_clear 64 v k h)

-- ---- pixels

module _ {shape : Shape} {words : List ℕ} (ok : ImageAccepted shape words) where
  black_bit : (x y : ℕ) → black_at shape words x y ≡ bit_at words (y * shape.row_words * 64 + x)
  black_bit x y = sym (ran_pixel words words shape x y ok.stored refl).result

  -- column 64 q + k of row y is bit k of word q of that row
  pub black_word : (q k y : ℕ) → k < 64 → black_at shape words (q * 64 + k) y ≡ test_bit (get_or words (y * shape.row_words + q) 0) k
  unfolding bit_at
  black_word q k y h =
      let word : (y * shape.row_words * 64 + (q * 64 + k)) / 64 ≡ y * shape.row_words + q = omega arith in
      let place : (y * shape.row_words * 64 + (q * 64 + k)) % 64 ≡ k = omega arith in
      black_bit (q * 64 + k) y ∙ ap₂ (λ (i j : ℕ). test_bit (get_or words i 0) j) word place

  -- the padding is white
  padding_white : (x y : ℕ) → shape.width ≤ x → x < 64 * shape.row_words → y < shape.height → black_at shape words x y ≡ false
  unfolding row_padded
  padding_white x y past column row =
      let w : ℕ = shape.width in
      let rows : shape.row_words ≡ row_words w = ok.limits.rows in
      let place : x ≡ w + (x - w) = omega arith in
      let index : y * row_words w * 64 + x ≡ (y * row_words w + x / 64) * 64 + x % 64 = omega arith in
      let white : word_bit words w (w + (x - w)) y ≡ false =
      none_holds (λ k. word_bit words w (w + k) y) (64 * row_words w - w)
      (none_holds (row_padded (word_bit words w) w (64 * row_words w)) shape.height ok.clean row) (omega arith) in
      black_bit x y ∙ ap (λ (n : ℕ). bit_at words (y * n * 64 + x)) rows ∙ ap (bit_at words) index ∙ ap (λ (n : ℕ). word_bit words w n y) place ∙ white

  -- so a column with a black pixel lies inside
  pub column_inside : (x : ℕ) → x < 64 * shape.row_words → black_column (black_at shape words) shape.height x ≡ true → x < shape.width
  column_inside x column black = go (dec_lt x shape.width)
    where
      go : Dec (x < shape.width) → x < shape.width
      go (yes h) = h
      go (no h) =
          let none : black_column (black_at shape words) shape.height x ≡ false =
          none_below (λ y. black_at shape words x y) shape.height (λ y row. padding_white x y (omega arith) column row) in
          absurd (false≢true (sym none ∙ black))

-- ---- words that are 0 or not

pub word_set : (words : List ℕ) (i : ℕ) → (get_or words i 0 ≡ 0 → ⊥) → is_set words i ≡ true
word_set words i some = ap not (ne_eqb _ 0 some)

pub word_clear : (words : List ℕ) (i : ℕ) → get_or words i 0 ≡ 0 → is_set words i ≡ false
word_clear words i none = ap not (eq-eqb _ 0 none)

pub set_some : (words : List ℕ) (i : ℕ) → is_set words i ≡ true → get_or words i 0 ≡ 0 → ⊥
set_some words i set = eqb-false _ 0 (not-true _ set)

pub clear_none : (words : List ℕ) (i : ℕ) → is_set words i ≡ false → get_or words i 0 ≡ 0
clear_none words i clear = eqb-true _ 0 (not-false _ clear)
