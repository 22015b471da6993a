-- `detector_window::Ring::buckets` meets its contract. The invariant: the runs so far are those of the definition.
use Rattle.std.proofs.Common.{ℕ, ◌<◌, List, length, get_or, ◌≡◌}
use Rattle.detector_window.specs.Ring.{count}
use Rattle.detector_window.proofs.Ring.buckets.Given as goal

-- the first n of the last eleven runs
pub record Counted (starts : List ℕ) (present end : ℕ) (buckets : List ℕ) (n : ℕ) : Type 0 where
  pub eleven : length buckets ≡ 11
  pub runs : (j : ℕ) → j < n → get_or buckets j 0 ≡ count starts present end j

abbrev pub invariant-loop-i : goal.invariant-loop-i
invariant-loop-i l = Counted l.self.starts l.self.present l.end l.buckets l.i
