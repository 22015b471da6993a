-- A record's variance, in its word. Definitions only. Assumes nothing.
use Rattle.std.specs.Prelude.{ℕ, List, get_or, take, drop, set, Float}
use Rattle.std.specs.Float.{binary32}
use Rattle.std.specs.Float.Ieee.{of_bits, to_bits}
use Rattle.detector_variance.specs.Variance.{circle_variance}
use Rattle.records.specs.Fields as field
use Rattle.records.specs.Records.{Record}

-- a record's eleven runs from a place on
abbrev pub runs_from : ℕ → Record → List ℕ
runs_from at r = take 11 (drop at r)

unfoldable pub variance_bits : Record → ℕ
variance_bits r = to_bits binary32 (circle_variance (runs_from field.row_runs r) (runs_from field.column_runs r))

-- the record with its variance's bits
unfoldable pub with_variance : Record → Record
with_variance r = set r field.variance (variance_bits r)

abbrev pub variance_of : Record → Float
variance_of r = of_bits binary32 (get_or r field.variance 0)
