-- `step_exports::sweep::step_count_row` meets its contract.
use Rattle.std.proofs.Common.{rules}
use Rattle.step_exports.proofs.Guarding.{image_passed_as, answer}
use Rattle.step_exports.proofs.Running.{counted}
use Rattle.step_exports.proofs.sweep.step_count_row.Goals as goal

pub returns : goal.returns
returns c = answer (search image_passed_as) (counted _ _ c.shape_of-shape.ensures _ _ c.count_row.ensures.ran (search rules))
