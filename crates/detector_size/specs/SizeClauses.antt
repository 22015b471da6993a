-- What the clauses of functions name. Assumes nothing.
use Rattle.std.specs.Prelude.{Bool, ◌&&◌, Float}
use Rattle.std.specs.Float.{binary64}
use Rattle.std.specs.Float.Ieee.{of_bits, le}

-- a scale from 0.0625 to 0.08: 0.066 and the five of `ACCEPTED_SCALES` are
abbrev pub is_scale : Float → Bool
is_scale p = le (of_bits binary64 0x3fb0_0000_0000_0000) p && le p (of_bits binary64 0x3fb4_7ae1_47ae_147b)
