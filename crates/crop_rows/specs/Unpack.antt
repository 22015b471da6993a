-- The words of a crop file: docs/MANUAL.md, "The crop file" and "Answers". Assumes nothing.
use Rattle.std.specs.Prelude.{ℕ, ◌+◌, ◌*◌, ◌/◌, ◌%◌, Bool, false, cond, List, ltb}
use Rattle.bit_matrix.specs.declared.Shape.{Shape}
use Rattle.bit_matrix.specs.Shape.{row_words, size}
use Rattle.crop_padding.specs.Below.{firsts, number}
use Rattle.crop_padding.specs.Padding.{file_bit}

-- the pixel at column c of row y, true for black; past the width it is white
unfoldable pub pixel_of : List ℕ → ℕ → ℕ → ℕ → Bool
pixel_of file w c y = cond (ltb c w) (file_bit file w c y) false

-- word i of the image, in row i / row words: 64 columns from the least significant bit
unfoldable pub word_of : List ℕ → ℕ → ℕ → ℕ
word_of file w i = number (λ k. pixel_of file w (i % row_words w * 64 + k) (i / row_words w)) 64

-- all words of an image of this shape
abbrev pub unpacked : List ℕ → Shape → List ℕ
unpacked file shape = firsts (word_of file shape.width) (size shape)
