-- What it is to be a correctly rounded square root, without a word on how it is computed: `proofs/Meaning.antt` proves it of `sqrt`, and that
-- nothing else is one. Definitions only. Assumes nothing.
-- A unit of a format is its smallest value, 2 ^ -low, and every finite value that it holds is a whole number of units. The exact root of n₀ units is
-- √n units, n = n₀ * 2 ^ low.
use Rattle.std.specs.Prelude.{ℕ, ◌+◌, ◌*◌, ◌^◌, ◌<◌, false, T, Float}
use Rattle.std.specs.Float.{Format}
use Rattle.std.specs.Float.Ieee.{low, fits}
use Rattle.std.specs.Float.Ieee.Exact.{HasValue}
use Rattle.ieee.specs.Units.{units_of}

-- r units are nearer to √n units than any other value v of f: √n lies on r's side of the half way, (v + r) / 2. So there is no tie to break.
pub record NearestRoot (f : Format) (n r : ℕ) : Type 0 where
  pub smaller : (y : Float) → T (fits f y) → units_of f y < r → (units_of f y + r) * (units_of f y + r) < 4 * n
  pub larger : (y : Float) → T (fits f y) → r < units_of f y → 4 * n < (units_of f y + r) * (units_of f y + r)

-- r is the square root of a positive finite x, correctly rounded: a value of f, finite and not negative, and the nearest one
pub record RootOf (f : Format) (x r : Float) : Type 0 where
  pub held : T (fits f r)
  pub value : HasValue r false (units_of f r) (2 ^ low f)
  pub nearest : NearestRoot f (units_of f x * 2 ^ low f) (units_of f r)
