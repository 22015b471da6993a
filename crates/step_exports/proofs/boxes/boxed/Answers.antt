-- `step_exports::boxes::boxed` meets its contract.
use Rattle.step_exports.proofs.Running.{on_through}
use Rattle.step_exports.proofs.boxes.boxed.Goals as goal

pub returns : goal.returns
returns c = search on_through
