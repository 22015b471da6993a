-- A whole number as an f64, Rust's cast. Definition only. Assumes nothing.
use Rattle.std.specs.Prelude.{ℕ, pos, Float}
use Rattle.std.specs.Float.{binary64}
use Rattle.std.specs.Float.Ieee.{of_int}

abbrev pub real64 : ℕ → Float
real64 n = of_int binary64 (pos n)
