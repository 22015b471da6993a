-- `step_exports::geometry::step_scaled_boundary` meets its contract.
use Rattle.std.proofs.Common.{rules, refl}
use Rattle.step_exports.proofs.Guarding.{centered_passed_as, scale_passed_as, answer, scaled_words}
use Rattle.step_exports.proofs.geometry.step_scaled_boundary.Goals as goal

pub returns : goal.returns
returns c = answer (search centered_passed_as, search rules, search scale_passed_as) (refl, search scaled_words)
