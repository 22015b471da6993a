-- The stored bit of a column, padding included, and whether a padding bit is 1: docs/MANUAL.md, "The crop file" and "Answers". Here w and h are an image's
-- width and height, c a column and y a row. Assumes nothing.
use Rattle.std.specs.Prelude.{ℕ, ◌+◌, ◌*◌, ◌-◌, ◌/◌, ◌%◌, Bool, List, get_or}
use Rattle.reads.specs.Bits.{test_bit, bit_at}
use Rattle.bit_matrix.specs.Shape.{row_words}
use Rattle.crop_sizes.specs.Sizes.{row_bytes}
use Rattle.crop_padding.specs.Below.{any_below}

-- in a file: each row starts a byte, most significant bit first
abbrev pub file_bit : List ℕ → ℕ → ℕ → ℕ → Bool
file_bit file w c y = test_bit (get_or file (4 + y * row_bytes w + c / 8) 0) (7 - c % 8)

-- in words: each row starts a word, least significant bit first; the place is the one that `get` of bit_matrix.rs reads
abbrev pub word_bit : List ℕ → ℕ → ℕ → ℕ → Bool
word_bit words w c y = bit_at words ((y * row_words w + c / 64) * 64 + c % 64)

-- a bit of row y is 1 between column w and the end of the row; and so for some row below h
unfoldable pub row_padded : (ℕ → ℕ → Bool) → ℕ → ℕ → ℕ → Bool
row_padded bit w end y = any_below (λ k. bit (w + k) y) (end - w)

abbrev pub file_row : List ℕ → ℕ → ℕ → Bool
file_row file w = row_padded (file_bit file w) w (8 * row_bytes w)

abbrev pub file_padded : List ℕ → ℕ → ℕ → Bool
file_padded file w h = any_below (file_row file w) h

abbrev pub words_row : List ℕ → ℕ → ℕ → Bool
words_row words w = row_padded (word_bit words w) w (64 * row_words w)

abbrev pub words_padded : List ℕ → ℕ → ℕ → Bool
words_padded words w h = any_below (words_row words w) h
