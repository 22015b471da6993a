-- What the clauses of functions name. Assumes nothing.
use Rattle.std.specs.Prelude.{ℕ, ◌<◌, true, ◌≡◌, get_or}
use Rattle.detector_variance.specs.NeverNaNLaws.{unsigned}
use Rattle.records.specs.Records.{Record}
use Rattle.detector_variances.specs.Variances.{variance_of}

-- every word is below 2 ^ 16, as coordinates and runs are
abbrev pub Small : Record → Type 0
Small r = (k : ℕ) → get_or r k 0 < 65536

-- its variance is a number, and not negative
abbrev pub UnsignedVariance : Record → Type 0
UnsignedVariance r = unsigned (variance_of r) ≡ true
