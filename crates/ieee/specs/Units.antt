-- A finite value in units of a format, its smallest value, 2 ^ -low. Definition only. Assumes nothing.
use Rattle.std.specs.Prelude.{ℕ, ◌*◌, ◌/◌, ◌^◌, Float}
use Rattle.std.specs.Float.{nan, inf, fin, Format}
use Rattle.std.specs.Float.Ieee.{low, up, down}

-- the magnitude in units of f: a whole number, if f holds the value
unfoldable pub units_of : Format → Float → ℕ
units_of f nan = 0
units_of f (inf s) = 0
units_of f (fin s m e) = m * up e * 2 ^ low f / down e
