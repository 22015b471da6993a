-- Degrees tested on an image with one black square of 3 by 3, by computation. Assumes nothing.
use Rattle.std.specs.Prelude.{Option, None, Some, Bool, true, false, ◌≡◌, ℕ, List, [], ◌∷◌, refl}
use mathlib.Core.List.{flat_map}
use Rattle.std.specs.Float.Ieee.{of_bits, of_int, add, sub, mul, to_unsigned}
use Rattle.reads.specs.Reads.{◌>>=◌, value}
use Rattle.reads.specs.Bits.{test_bit, bit_at, range}
use Rattle.reads.specs.Runs.{value_of}
use Rattle.bit_matrix.specs.Shape.{shape_of}
use Rattle.bit_matrix.specs.Pixels.{pixel, try_get}
use Rattle.bit_matrix_area.specs.Area.{count_black, try_get_area}
use Rattle.ieee.specs.Sign.{abs}
use Rattle.sines.specs.Sines.{sines, sine_of, angle_of}
use Rattle.rxing_result_point.specs.declared.PointU.{PointU}
use Rattle.rxing_result_point.specs.Points.{turned}
use Rattle.detector_colours.specs.Colours.{right_colour, points_from, test_degree}
use Rattle.detector_degrees.specs.Degrees.{point_of, degrees_from, look_at, try_degrees}

-- 33 columns and rows of one word each, black at columns and rows 9 to 11
abbrev words : List ℕ
words = 0 ∷ 0 ∷ 0 ∷ 0 ∷ 0 ∷ 0 ∷ 0 ∷ 0 ∷ 0 ∷ 3584 ∷ 3584 ∷ 3584 ∷ []

-- a point in the square, one out of it, and one outside the image
abbrev black : PointU
black = record { x = 10; y = 10 }

abbrev white : PointU
white = record { x = 20; y = 20 }

abbrev outside : PointU
outside = record { x = 40; y = 10 }

abbrev center : PointU
center = record { x = 16; y = 16 }

-- the six groups, of a black point and a white one
abbrev groups_of : PointU → PointU → List (List PointU)
groups_of b w = (b ∷ b ∷ b ∷ []) ∷ (w ∷ w ∷ w ∷ []) ∷ (b ∷ w ∷ b ∷ []) ∷ (b ∷ w ∷ b ∷ []) ∷ (b ∷ w ∷ b ∷ []) ∷ (b ∷ w ∷ b ∷ []) ∷ []

-- at degree 0
abbrev test_at : List (List PointU) → Option Bool
test_at groups = value_of (test_degree (look_at (shape_of 33 33) center groups (angle_of 0))) words

-- each point has its colour, or the colours are exchanged; the first point that is wrong or outside decides
pub near_test : (test_at (groups_of black white) ≡ Some true) × (test_at (groups_of white black) ≡ Some false)
    × (test_at (groups_of black outside) ≡ None) × (test_at (groups_of white outside) ≡ Some false)
unfolding value_of value ◌>>=◌ test_bit bit_at range flat_map pixel try_get count_black try_get_area
    of_bits of_int add sub mul to_unsigned turned abs sines sine_of point_of right_colour look_at points_from test_degree
near_test = (refl, refl, refl, refl)

abbrev try_all : List (List PointU) → Option ℕ
try_all groups = value_of (try_degrees (shape_of 33 33) center groups) words

-- a point that lies in the square when it is turned by 12 degrees, and at no degree before; a point outside at degree 0
pub near_turn : (try_all (groups_of (record { x = 8; y = 12 }) white) ≡ Some 12) × (try_all (groups_of outside white) ≡ None)
unfolding value_of value ◌>>=◌ test_bit bit_at range flat_map pixel try_get count_black try_get_area
    of_bits of_int add sub mul to_unsigned turned abs sines sine_of point_of right_colour look_at points_from test_degree degrees_from try_degrees
near_turn = (refl, refl)
