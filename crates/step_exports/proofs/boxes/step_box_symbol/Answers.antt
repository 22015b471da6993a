-- `step_exports::boxes::step_box_symbol` meets its contract.
use Rattle.std.proofs.Common.{rules, refl}
use Rattle.step_exports.proofs.Guarding.{passed_test, lent_passed_as, answer}
use Rattle.step_exports.proofs.Running.{boxed_ran}
use Rattle.step_exports.proofs.boxes.step_box_symbol.Goals as goal

pub returns : goal.returns
returns c =
    let radius = passed_test c.is_radius.ensures c.if-not-is_radius.false in
    answer (record { lent = search lent_passed_as; least = radius.0; most = radius.1 })
    (refl, boxed_ran _ _ c.shape_of-shape.ensures _ _ c.boxed.ensures.ran (search rules))
