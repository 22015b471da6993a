-- `step_exports::boxes::sample_number` meets its contract.
use Rattle.std.proofs.Common.{rules}
use Rattle.step_exports.specs.Steps.{sample_number}
use Rattle.step_exports.proofs.boxes.sample_number.Goals as goal

pub returns : goal.returns
unfolding sample_number
returns c = search rules
