-- `step_exports::boxes::step_try_get_area` meets its contract.
use Rattle.std.proofs.Common.{rules}
use Rattle.step_exports.proofs.Guarding.{image_passed_as, answer}
use Rattle.step_exports.proofs.Running.{area_ran}
use Rattle.step_exports.proofs.boxes.step_try_get_area.Goals as goal

pub returns : goal.returns
returns c =
    answer (search image_passed_as)
    (area_ran _ _ c.shape_of-shape.ensures _ _ c.try_get_area-sample.ensures.ran (search rules) c.sample_number.ensures)
