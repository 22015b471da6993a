-- A black centre pixel, by computation: both walks to the left end where they start, and the corrected centre is (0, 0). The walk to the right at 97
-- degrees is read too, its end unused. Assumes nothing.
use Rattle.std.specs.Prelude.{ℕ, ◌+◌, ◌^◌, List, [], ◌∷◌, ◌++◌, ◌≡◌, refl, replicate}
use Rattle.std.specs.Float.Ieee.{of_bits, of_int, add, sub, mul, div, to_unsigned}
use Rattle.ieee.specs.Sign.{abs}
use Rattle.ieee.specs.Integral.{floor, round_ties_to_away}
use Rattle.reads.specs.Reads.{◌>>=◌, value, trace}
use Rattle.reads.specs.Bits.{test_bit, bit_at}
use Rattle.reads.specs.Runs.{value_of}
use Rattle.sines.specs.Sines.{sine_of}
use Rattle.bit_matrix.specs.declared.Shape.{Shape}
use Rattle.bit_matrix.specs.Shape.{shape_of}
use Rattle.bit_matrix.specs.Pixels.{pixel}
use Rattle.rxing_result_point.specs.declared.PointU.{PointU}
use Rattle.rxing_result_point.specs.Points.{turned}
use Rattle.detector_walks.specs.Walks.{white_pixel, left_from, right_from, walk, width_of, find_width_at_degree}
use Rattle.detector_center.specs.Center.{find_center, corrected}

-- 33 columns and rows of one word each
abbrev smallest : Shape
smallest = shape_of 33 33

-- the centre and the pixel left of it are black
abbrev black_center : List ℕ
black_center = replicate 16 0 ++ (2 ^ 15 + 2 ^ 16) ∷ replicate 16 0

abbrev center : PointU
center = record { x = 16; y = 16 }

pub black_center_lem : (value_of (corrected smallest center) black_center ≡ record { x = 0; y = 0 })
    × (trace (corrected smallest center) (bit_at black_center) ≡ 1040 ∷ 1040 ∷ 1040 ∷ 1039 ∷ [])
unfolding value_of value trace ◌>>=◌ test_bit bit_at pixel white_pixel left_from right_from walk width_of find_width_at_degree find_center corrected
    turned sine_of of_bits of_int add sub mul div to_unsigned abs floor round_ties_to_away
black_center_lem = (refl, refl)
