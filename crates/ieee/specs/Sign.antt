-- Rust's `abs`, on the values of `lib.Ieee`. Definition only. Assumes nothing.
use Rattle.std.specs.Prelude.{false, Float}
use Rattle.std.specs.Float.{nan, inf, fin}

-- IEEE 754's abs: the sign is cleared, and a NaN stays one
unfoldable pub abs : Float → Float
abs nan = nan
abs (inf s) = inf false
abs (fin s m e) = fin false m e
