-- The candidates whose centre is within the deviation of the mean, as `detect` of detector.rs retains them. Definitions only. Assumes nothing.
use Rattle.std.specs.Prelude.{ℕ, ◌+◌, ◌-◌, Bool, ◌&&◌, List, leb, get_or}
use Rattle.records.specs.Fields as field
use Rattle.records.specs.Records.{Record, filter}
use Rattle.detector_kept.specs.declared.Spread.{Spread}

-- x and m are at most d apart
abbrev pub within : ℕ → ℕ → ℕ → Bool
within d m x = leb ((x - m) + (m - x)) d

unfoldable pub near : Spread → Record → Bool
near s r = within s.x.dev s.x.mean (get_or r field.center_x 0) && within s.y.dev s.y.mean (get_or r field.center_y 0)

abbrev pub retain : Spread → List Record → List Record
retain s rs = filter (near s) rs
