-- Counts of runs, by their place. Assumes nothing.
use Rattle.std.specs.Prelude.{ℕ, ◌+◌, List, get_or, set}

-- one pixel more in run i
unfoldable pub bump : List ℕ → ℕ → List ℕ
bump buckets i = set buckets i (get_or buckets i 0 + 1)
