-- `step_exports::geometry::step_get_point` meets its contract.
use Rattle.step_exports.proofs.Guarding.{point_words_lem}
use Rattle.step_exports.proofs.geometry.step_get_point.Goals as goal

pub returns : goal.returns
returns c = search point_words_lem
