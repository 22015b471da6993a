-- What the clauses of functions name. Assumes nothing.
use Rattle.std.specs.Prelude.{ℕ, Bool, true, ◌&&◌, List}
use Rattle.std.specs.List.{fold}
use Rattle.detector_widths.specs.Widths.{passes}

-- whether each of some runs passes among runs of this total
abbrev pub runs_pass : ℕ → List ℕ → Bool
runs_pass total runs = fold (λ good run. good && passes total run) true runs
