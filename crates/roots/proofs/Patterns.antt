-- One pattern stands for every NaN, so a vector's line need not tell one from another. Assumes nothing.
use Rattle.std.proofs.Common.{true, T, ◌≡◌, sym, ap, subst}
use Rattle.std.specs.Float.{Float, Format, nan}
use Rattle.std.specs.Float.Ieee.{ne, to_bits}
use lib.Ieee.Compare.{differs_from_itself}

-- what differs from itself has the pattern of a NaN
pub nan_bits_lem : (f : Format) (x : Float) → ne x x ≡ true → to_bits f nan ≡ to_bits f x
nan_bits_lem f x h = ap (to_bits f) (sym (differs_from_itself x (subst T (sym h) tt)))
