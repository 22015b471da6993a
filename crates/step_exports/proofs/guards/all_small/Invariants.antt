-- `step_exports::guards::all_small` meets its contract. The invariant is that the words so far are small.
use Rattle.step_exports.specs.Steps.{SmallTo}
use Rattle.step_exports.proofs.guards.all_small.Given as goal

abbrev pub invariant-loop-word : goal.invariant-loop-word
invariant-loop-word l = SmallTo l.word-index l.word-items
