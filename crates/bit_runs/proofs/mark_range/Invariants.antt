-- `bit_runs::mark_range` meets its contract. The invariant: the columns before the present word are marked.
use Rattle.std.proofs.Common.{ℕ, ◌+◌, ◌-◌, ◌*◌, ◌≡◌, List, length, min, max}
use Rattle.reads.specs.Bits.{mark_all, range}
use Rattle.bit_runs.proofs.mark_range.Given as goal

pub record Marking (marks₀ : List ℕ) (first from i : ℕ) (marks : List ℕ) : Type 0 where
  pub sized : length marks ≡ length marks₀
  pub marked : marks ≡ mark_all marks₀ (range (first * 64 + from) (i - from))

abbrev pub invariant-loop-word : goal.invariant-loop-word
invariant-loop-word l = Marking l.initial.marks l.first l.from (max l.from (min l.to (l.word * 64))) l.marks
