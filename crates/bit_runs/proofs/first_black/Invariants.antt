-- `bit_runs::first_black` meets its contract. The invariant: each column before the present word is white.
use Rattle.std.proofs.Common.{ℕ, ◌*◌, ◌≤◌, ◌<◌, false, ◌≡◌, List}
use Rattle.bit_runs.specs.BitRuns.{row_bit}
use Rattle.bit_runs.proofs.first_black.Given as goal

-- each column from `from` up to i is white
pub record Passed (words : List ℕ) (first from i : ℕ) : Type 0 where
  pub white : (k : ℕ) → from ≤ k → k < i → row_bit words first k ≡ false

abbrev pub invariant-loop-word : goal.invariant-loop-word
invariant-loop-word l = Passed l.words l.first l.from (l.word * 64)
