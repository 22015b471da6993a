-- Pixels past the width, by computation. Assumes nothing.
use Rattle.std.specs.Prelude.{ℕ, true, false, List, [], ◌∷◌, ◌≡◌, refl}
use Rattle.reads.specs.Reads.{value, trace}
use Rattle.reads.specs.Bits.{test_bit, bit_at}
use Rattle.reads.specs.Runs.{value_of}
use Rattle.bit_matrix.specs.declared.Shape.{Shape}
use Rattle.bit_matrix.specs.Shape.{shape_of}
use Rattle.bit_matrix.specs.Pixels.{pixel}

-- two rows of one word
abbrev two_of_one : Shape
two_of_one = shape_of 64 2

-- column 64 of the first is the second's first bit, and column 64 of the second lies past the last word
abbrev two_rows : List ℕ
two_rows = 0 ∷ 1 ∷ []

pub past_width : (value_of (pixel two_of_one 64 0) two_rows ≡ true) × (trace (pixel two_of_one 64 0) (bit_at two_rows) ≡ 64 ∷ [])
    × (value_of (pixel two_of_one 64 1) two_rows ≡ false) × (trace (pixel two_of_one 64 1) (bit_at two_rows) ≡ [])
unfolding value_of value trace test_bit bit_at pixel
past_width = (refl, refl, refl, refl)
