-- `step_exports::boxes::step_find_width_at_degree` meets its contract.
use Rattle.std.proofs.Common.{rules, refl}
use Rattle.step_exports.proofs.Guarding.{lent_passed_as, answer}
use Rattle.step_exports.proofs.Running.{walked_ran}
use Rattle.step_exports.proofs.boxes.step_find_width_at_degree.Goals as goal

pub returns : goal.returns
returns c =
    answer (search lent_passed_as) (
      refl,
      walked_ran _ _ c.shape_of-shape.ensures _ _ c.find_width_at_degree-width.ensures.ran (search rules) c.f32_to_bits_with_nan.ensures
          c.f32_to_bits_with_nan-2.ensures c.f32_to_bits_with_nan-3.ensures c.f32_to_bits_with_nan-4.ensures,
    )
