-- The size of a symbol, guessed from the radius of its bull's-eye, in f64 with a correctly rounded square root. Definitions only. Assumes nothing.
use Rattle.std.specs.Prelude.{ℕ, ◌*◌, pos, Float}
use Rattle.std.specs.Float.{binary64}
use Rattle.std.specs.Float.Ieee.{of_bits, of_int, sub, mul, div, to_unsigned}
use Rattle.ieee.specs.Integral.{floor}
use Rattle.ieee_sqrt.specs.Sqrt.{sqrt}
use Rattle.detector_size.specs.declared.Size.{Size}

abbrev pub pi : Float
pi = of_bits binary64 0x4009_21fb_5444_2d18

abbrev pub one : Float
one = of_bits binary64 0x3ff0_0000_0000_0000

-- `ideal_symbol_side`: the square root of the circle's area divided by `circlePercent`, then by 1 less `heightAdjust`
unfoldable pub ideal_side : ℕ → Float → Float → Float
ideal_side radius height_adjust circle_percent =
    let circle = mul binary64 pi (of_int binary64 (pos (radius * radius))) in
    sqrt binary64 (div binary64 (div binary64 circle circle_percent) (sub binary64 one height_adjust))

-- `guess_barcode_size_general`
unfoldable pub guessed_size : ℕ → Float → Float → Float → Size
guessed_size radius height_adjust circle_percent height_final =
    let side = ideal_side radius height_adjust circle_percent in
    record { width = to_unsigned 32 (floor binary64 side); height = to_unsigned 32 (floor binary64 (mul binary64 side height_final)) }

-- `guess_barcode_size`: 0.03, 0.066 and 1.0
abbrev pub plain_size : ℕ → Size
plain_size radius = guessed_size radius (of_bits binary64 0x3f9e_b851_eb85_1eb8) (of_bits binary64 0x3fb0_e560_4189_374c) one

-- the size at a scale: 0.05, the scale and 0.95
abbrev pub scaled_size : ℕ → Float → Size
scaled_size radius scale = guessed_size radius (of_bits binary64 0x3fa9_9999_9999_999a) scale (of_bits binary64 0x3fee_6666_6666_6666)
