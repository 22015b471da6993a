-- The mean and the standard deviation of the candidates' centres, as `calculate_center_point_std_dev` of detector.rs has them in `f64`, with a
-- square as a product. Definitions only. Assumes nothing.
use Rattle.std.specs.Prelude.{ℕ, List, [], ◌∷◌, map, length, get_or, Float}
use Rattle.std.specs.Float.{binary64}
use Rattle.std.specs.Float.Ieee.{of_bits, add, sub, mul, div, to_unsigned}
use Rattle.ieee.specs.Whole.{real64}
use Rattle.ieee_sqrt.specs.Sqrt.{sqrt}
use Rattle.reads.specs.Total.{total}
use Rattle.records.specs.Fields as field
use Rattle.records.specs.Records.{Record}
use Rattle.detector_kept.specs.declared.Axis.{Axis}
use Rattle.detector_kept.specs.declared.Spread.{Spread}

-- one field of each record
abbrev pub fields_at : ℕ → List Record → List ℕ
fields_at k rs = map (λ (r : Record). get_or r k 0) rs

unfoldable pub mean : List ℕ → Float
mean xs = div binary64 (real64 (total xs)) (real64 (length xs))

-- acc, and the square of how far x is from m
unfoldable pub with_square : Float → Float → ℕ → Float
with_square m acc x = let off = sub binary64 (real64 x) m in add binary64 acc (mul binary64 off off)

-- acc, and the squares of the numbers, added in their order
unfoldable pub squares : Float → Float → List ℕ → Float
squares m acc [] = acc
squares m acc (x ∷ xs) = squares m (with_square m acc x) xs

unfoldable pub deviation : List ℕ → Float
deviation xs = sqrt binary64 (div binary64 (squares (mean xs) (of_bits binary64 0) xs) (real64 (length xs)))

-- both truncated
unfoldable pub axis : List ℕ → Axis
axis xs = record { dev = to_unsigned 32 (deviation xs); mean = to_unsigned 32 (mean xs) }

-- for x and for y
unfoldable pub spread : List Record → Spread
spread rs = record { x = axis (fields_at field.center_x rs); y = axis (fields_at field.center_y rs) }
