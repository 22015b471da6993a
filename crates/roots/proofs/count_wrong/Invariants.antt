-- `roots::count_wrong` is safe: no more lines are wrong than it has passed.
use Rattle.std.proofs.Common.{◌≤◌}
use Rattle.roots.proofs.count_wrong.Given as goal

abbrev pub invariant-loop-line : goal.invariant-loop-line
invariant-loop-line g l = l.wrong ≤ l.line-index
