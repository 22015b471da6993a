-- Rust's `floor` and `round`, on the values of `lib.Ieee`. Definitions only. Assumes nothing.
-- The whole number that each names is a value of the format that holds x, so `lib.Ieee.round` only writes it down. A zero has x's sign.
use Rattle.std.specs.Prelude.{ℕ, ◌+◌, ◌*◌, ◌/◌, ◌%◌, true, false, cond, ◌==◌, Float}
use Rattle.std.specs.Float.Ieee.{up, down, round}
use Rattle.std.specs.Float.{nan, inf, fin, Format}

-- n / d, rounded up
abbrev up_to : ℕ → ℕ → ℕ
up_to n d = n / d + cond (n % d == 0) 0 1

-- IEEE 754's roundToIntegralTowardNegative, Rust's `floor`: the largest whole number that is not above x
unfoldable pub floor : Format → Float → Float
floor f nan = nan
floor f (inf s) = inf s
floor f (fin false m e) = round f false (m * up e / down e) 1
floor f (fin true m e) = round f true (up_to (m * up e) (down e)) 1

-- IEEE 754's roundToIntegralTiesToAway, Rust's `round`: the nearest whole number, and of two as near the one further from zero
unfoldable pub round_ties_to_away : Format → Float → Float
round_ties_to_away f nan = nan
round_ties_to_away f (inf s) = inf s
round_ties_to_away f (fin s m e) = round f s ((2 * (m * up e) + down e) / (2 * down e)) 1
