-- `step_exports::geometry::point_of` meets its contract.
use Rattle.step_exports.proofs.Guarding.{same_point}
use Rattle.step_exports.proofs.geometry.point_of.Goals as goal

pub returns : goal.returns
returns c = search same_point
