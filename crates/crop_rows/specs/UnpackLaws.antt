-- What the unpacked words are: each stored bit is the file's pixel, or white past the width. Assumes nothing.
use Rattle.std.specs.Prelude.{ℕ, ◌+◌, ◌*◌, ◌-◌, ◌/◌, ◌%◌, ◌<◌, Bool, false, List, ◌≡◌, length, get_or}
use Rattle.std.proofs.Math.Bool.{cond}
use Rattle.std.proofs.Math.Path.{ap, ap₂}
use Rattle.std.proofs.Common.{arith, ◌∙◌, le-ltb}
use Rattle.std.proofs.Math.Arith.{digits_div, digits_mod, digits_lt}
use Rattle.reads.specs.Bits.{test_bit, bit_at}
use Rattle.crop_padding.specs.Below.{number}
use Rattle.bit_matrix.specs.declared.Shape.{Shape}
use Rattle.bit_matrix.specs.Shape.{row_words, shape_of, size}
use Rattle.crop_padding.specs.Padding.{file_bit, word_bit, row_padded, words_padded}
use Rattle.crop_padding.specs.AnyLaws.{none_below}
use Rattle.crop_padding.specs.NumberLaws.{test_number}
use Rattle.crop_rows.specs.FirstsLaws.{length_firsts, get_or_firsts}
use Rattle.crop_rows.specs.Unpack.{pixel_of, word_of, unpacked}

-- as many words as the image has
pub length_unpacked : (file : List ℕ) (shape : Shape) → length (unpacked file shape) ≡ size shape
length_unpacked file shape = length_firsts (word_of file shape.width) (size shape)

module _ (file : List ℕ) (w h : ℕ) where
  -- word x of row y
  pub word_at : (x y : ℕ) → x < row_words w → word_of file w (y * row_words w + x) ≡ number (λ k. pixel_of file w (x * 64 + k) y) 64
  unfolding word_of
  word_at x y column = ap₂ (λ (q r : ℕ). number (λ k. pixel_of file w (r * 64 + k) q) 64) (digits_div y {r = x} column) (digits_mod y {r = x} column)

  -- the stored bit of column c of row y
  pub pixel_stored : (c y : ℕ) → c < 64 * row_words w → y < h → word_bit (unpacked file (shape_of w h)) w c y ≡ pixel_of file w c y
  unfolding bit_at
  pixel_stored c y column row =
      let below : c / 64 < row_words w = omega arith in
      let stored : y * row_words w + c / 64 < size (shape_of w h) = omega (arith, digits_lt {r = c / 64} {c = row_words w} row below) in
      let word : ((y * row_words w + c / 64) * 64 + c % 64) / 64 ≡ y * row_words w + c / 64 = omega arith in
      let place : ((y * row_words w + c / 64) * 64 + c % 64) % 64 ≡ c % 64 = omega arith in
      let again : c / 64 * 64 + c % 64 ≡ c = omega arith in
      ap₂ (λ (q r : ℕ). test_bit (get_or (unpacked file (shape_of w h)) q 0) r) word place
      ∙ ap (λ (v : ℕ). test_bit v (c % 64)) (get_or_firsts (word_of file w) (size (shape_of w h)) stored ∙ word_at (c / 64) y below)
      ∙ test_number (λ k. pixel_of file w (c / 64 * 64 + k) y) 64 (c % 64) (omega arith)
      ∙ ap (λ (n : ℕ). pixel_of file w n y) again

  -- no padding bit is set
  pub unpacked_clean : words_padded (unpacked file (shape_of w h)) w h ≡ false
  unfolding row_padded pixel_of
  unpacked_clean =
      none_below (row_padded (word_bit (unpacked file (shape_of w h)) w) w (64 * row_words w)) h λ y row.
      none_below (λ k. word_bit (unpacked file (shape_of w h)) w (w + k) y) (64 * row_words w - w) λ k spare.
      pixel_stored (w + k) y (omega arith) row ∙ ap (λ (b : Bool). cond b (file_bit file w (w + k) y) false) (le-ltb (w + k) w (omega arith))
