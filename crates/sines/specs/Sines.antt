-- The stand-in for sine and cosine (docs/MANUAL.md, "How a search decides"). A degree counts modulo 360. Definitions only. Assumes nothing.
use Rattle.std.specs.Prelude.{ℕ, ◌+◌, ◌%◌, List, map, get_or, Float}
use Rattle.std.specs.Float.{nan, binary32}
use Rattle.std.specs.Float.Ieee.{of_bits}
use Rattle.sines.specs.Table.{patterns}
use Rattle.sines.specs.declared.Angle.{Angle}

-- the table
unfoldable pub sines : List Float
sines = map (of_bits binary32) patterns

unfoldable pub sine_of : ℕ → Float
unfolding sines
sine_of degree = get_or sines (degree % 360) nan

-- the cosine: the sine a quarter turn on
abbrev pub cosine_of : ℕ → Float
cosine_of degree = sine_of (degree + 90)

abbrev pub angle_of : ℕ → Angle
angle_of degree = record { sin = sine_of degree; cos = cosine_of degree }
