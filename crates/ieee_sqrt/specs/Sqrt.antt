-- Rust's `sqrt`, IEEE 754's squareRoot, correctly rounded, on the values of `lib.Ieee`. Definitions only, which compute; `proofs/Meaning.antt` proves that
-- they give what `specs/CorrectlyRounded.antt` says. Assumes nothing.
use Rattle.std.specs.Prelude.{ℕ, zero, suc, ◌+◌, ◌*◌, ◌/◌, ◌^◌, true, false, cond, leb, eqb, Float}
use Rattle.std.specs.Float.{nan, inf, fin, Format}
use Rattle.std.specs.Float.Ieee.{low, size, round}
use Rattle.ieee.specs.Units.{units_of}

-- r or r + 1: the larger one whose square is at most n
abbrev pub last_digit : ℕ → ℕ → ℕ
last_digit r n = cond (leb (suc r * suc r) n) (suc r) r

-- the whole part of the square root of an n below 4 ^ k, a binary digit a step
unfoldable pub root_by : ℕ → ℕ → ℕ
root_by zero n = 0
root_by (suc k) n = let r = 2 * root_by k (n / 4) in last_digit r n

-- the whole part of the square root of n
unfoldable pub isqrt : ℕ → ℕ
isqrt n = root_by (size n) n

-- For an n with more digits than f keeps, or one that is a square: the value of f nearest to √n units, a unit being f's smallest value, 2 ^ -low.
-- With w the whole part of √n, it lies at w, or between w and w + 1.
-- There w + 1/2 stands for it: where √n has more digits than f keeps, both lie on the same side of each value of f and of each half way between two.
unfoldable pub round_root : Format → ℕ → Float
round_root f n = let w = isqrt n in round f false (2 * w + cond (eqb (w * w) n) 0 1) (2 * 2 ^ low f)

-- x is n * 2 ^ -low, n its units, so its root is √(n * 2 ^ low) units. A zero keeps its sign, and below zero there is no root.
unfoldable pub sqrt : Format → Float → Float
sqrt f nan = nan
sqrt f (inf false) = inf false
sqrt f (inf true) = nan
sqrt f (fin s zero e) = fin s zero e
sqrt f (fin true (suc m) e) = nan
sqrt f (fin false (suc m) e) = round_root f (units_of f (fin false (suc m) e) * 2 ^ low f)
