-- The rules of the table (docs/MANUAL.md, "How a search decides"), for a degree, with sines as whole numbers of 2 ^ -29. Definitions only.
use Rattle.std.specs.Prelude.{◌≡◌, Bool, true, false, cond, ℕ, ◌+◌, ◌*◌, ◌/◌, ◌^◌, ◌≤◌, ℤ, pos, negsuc, nat_abs, ◌+ℤ◌, ◌-ℤ◌, ◌*ℤ◌, Float}
use Rattle.std.proofs.Math.IntN.{neg_ℤ}
use Rattle.std.specs.Float.{nan, inf, fin}
use Rattle.std.specs.Float.Ieee.{up, down}
use Rattle.std.specs.Float.Ieee.Exact.{HasValue}
use Rattle.sines.specs.Sines.{sine_of, cosine_of}

-- ---- the rules
-- a value scaled by 2 ^ 29, cut to a whole number
unfoldable pub scaled : Float → ℤ
scaled nan = pos 0
scaled (inf s) = pos 0
scaled (fin s m e) = let n = m * up e * 2 ^ 29 / down e in cond s (neg_ℤ (pos n)) (pos n)

abbrev pub scaled_sine : ℕ → ℤ
scaled_sine degree = scaled (sine_of degree)

abbrev pub scaled_cosine : ℕ → ℤ
scaled_cosine degree = scaled (cosine_of degree)

abbrev pub negative : ℤ → Bool
negative (pos n) = false
negative (negsuc n) = true

-- how far a rule may be out, in units of 2 ^ -58
abbrev pub slack : ℕ
slack = 2 ^ 35

abbrev pub Near : ℤ → ℤ → Type 0
Near a b = nat_abs (a -ℤ b) ≤ slack

-- the rules at a degree
pub record SineRules (degree : ℕ) : Type 0 where
  -- scaled it is whole: nothing was cut
  pub whole : HasValue (sine_of degree) (negative (scaled_sine degree)) (nat_abs (scaled_sine degree)) (2 ^ 29)
  -- half a turn on, the sign changes
  pub half_turn : scaled_sine (degree + 180) ≡ neg_ℤ (scaled_sine degree)
  -- the squares of sine and cosine sum to 1
  pub squares : Near (scaled_sine degree *ℤ scaled_sine degree +ℤ scaled_cosine degree *ℤ scaled_cosine degree) (pos (2 ^ 58))
  -- the sine one degree on, by the sum rule
  pub next : Near (scaled_sine (degree + 1) *ℤ pos (2 ^ 29)) (scaled_sine degree *ℤ scaled_cosine 1 +ℤ scaled_cosine degree *ℤ scaled_sine 1)
