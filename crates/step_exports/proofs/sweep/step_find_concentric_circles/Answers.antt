-- `step_exports::sweep::step_find_concentric_circles` meets its contract.
use Rattle.std.proofs.Common.{rules}
use Rattle.step_exports.proofs.Guarding.{image_passed_as, answer}
use Rattle.step_exports.proofs.Running.{room, listed}
use Rattle.step_exports.proofs.sweep.step_find_concentric_circles.Goals as goal

pub returns : goal.returns
returns c =
    answer (search image_passed_as, search room)
    (listed _ _ c.shape_of-shape.ensures _ c.find_concentric_circles.ensures.listed (search rules))
