-- `step_exports::geometry::step_find_center` meets its contract.
use Rattle.step_exports.proofs.Guarding.{circle_words}
use Rattle.step_exports.proofs.geometry.step_find_center.Goals as goal

pub returns : goal.returns
returns c = search circle_words
