-- `step_exports::boxes::step_corrected_center` meets its contract.
use Rattle.std.proofs.Common.{rules, refl}
use Rattle.step_exports.proofs.Guarding.{lent_passed_as, answer}
use Rattle.step_exports.proofs.Running.{corrected_ran}
use Rattle.step_exports.proofs.boxes.step_corrected_center.Goals as goal

pub returns : goal.returns
returns c =
    answer (search lent_passed_as) (refl, corrected_ran _ _ c.shape_of-shape.ensures _ c.corrected_center-found.ensures.ran (search rules))
