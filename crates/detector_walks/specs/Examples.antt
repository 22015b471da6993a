-- What walks read in a white image at 0 and 180 degrees, where the sine is 0, and where those to the right end, by computation. Assumes nothing.
use Rattle.std.specs.Prelude.{ℕ, List, [], ◌∷◌, false, ◌≡◌, refl, length, take, replicate}
use Rattle.std.specs.Float.Ieee.{of_bits, of_int, add, sub, mul, to_unsigned}
use Rattle.ieee.specs.Sign.{abs}
use Rattle.reads.specs.Reads.{Reads, ◌>>=◌, value, trace}
use Rattle.reads.specs.Bits.{test_bit, bit_at}
use Rattle.reads.specs.Runs.{value_of}
use Rattle.sines.specs.Sines.{sine_of, angle_of}
use Rattle.bit_matrix.specs.declared.Shape.{Shape}
use Rattle.bit_matrix.specs.Shape.{shape_of}
use Rattle.bit_matrix.specs.Pixels.{pixel}
use Rattle.rxing_result_point.specs.declared.PointU.{PointU}
use Rattle.rxing_result_point.specs.Points.{turned}
use Rattle.detector_walks.specs.Walks.{white_pixel, left_from, right_from, walk}

-- two rows of one word
abbrev two_rows : Shape
two_rows = shape_of 64 2

abbrev white : List ℕ
white = replicate 2 0

-- to the left column 0 is read, before the test that ends the walk there
pub column_0_read : trace (left_from two_rows (record { x = 2; y = 1 }) (angle_of 0) 2) (bit_at white) ≡ 66 ∷ 65 ∷ 64 ∷ []
unfolding trace value ◌>>=◌ test_bit bit_at pixel white_pixel left_from turned sine_of of_bits of_int add sub mul to_unsigned abs
column_0_read = refl

-- to the right
abbrev right : PointU → ℕ → Reads ℕ
right center degree = walk two_rows center (angle_of degree) false

-- past the last column of a row the next row's bits are read, and the walk ends past the last word, where nothing is read
pub next_row_read : (take 3 (trace (right (record { x = 62; y = 0 }) 0) (bit_at white)) ≡ 63 ∷ 64 ∷ 65 ∷ [])
    × (value_of (right (record { x = 62; y = 0 }) 0) white ≡ 128)
unfolding value_of trace value ◌>>=◌ test_bit bit_at pixel white_pixel right_from walk turned sine_of of_bits of_int add sub mul to_unsigned abs
next_row_read = (refl, refl)

pub past_last_word_unread : (trace (right (record { x = 62; y = 1 }) 0) (bit_at white) ≡ 127 ∷ [])
    × (value_of (right (record { x = 62; y = 1 }) 0) white ≡ 64)
unfolding value_of trace value ◌>>=◌ test_bit bit_at pixel white_pixel right_from walk turned sine_of of_bits of_int add sub mul to_unsigned abs
past_last_word_unread = (refl, refl)

-- at 180 degrees the column falls to 0 and grows again, until at column 64 it is past the last word: the row's 64 bits are read, column 1's twice
pub mirrored_at_column_0 : (take 4 (trace (right (record { x = 2; y = 1 }) 180) (bit_at white)) ≡ 65 ∷ 64 ∷ 65 ∷ 66 ∷ [])
    × (length (trace (right (record { x = 2; y = 1 }) 180) (bit_at white)) ≡ 65)
    × (value_of (right (record { x = 2; y = 1 }) 180) white ≡ 68)
unfolding value_of trace value ◌>>=◌ test_bit bit_at pixel white_pixel right_from walk turned sine_of of_bits of_int add sub mul to_unsigned abs
mirrored_at_column_0 = (refl, refl, refl)
