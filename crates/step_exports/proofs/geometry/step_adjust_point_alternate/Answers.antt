-- `step_exports::geometry::step_adjust_point_alternate` meets its contract.
use Rattle.std.proofs.Common.{refl}
use Rattle.step_exports.proofs.Guarding.{passed_test, centered_passed_as, scale_passed_as, cell_passed, answer, adjusted_words, placed_of}
use Rattle.step_exports.proofs.geometry.step_adjust_point_alternate.Goals as goal

pub adjust_point_alternate-pixel-requires : goal.adjust_point_alternate-pixel-requires
adjust_point_alternate-pixel-requires c =
    let centered = passed_test c.is_centered.ensures c.if-not-is_centered.false in
    let radius = passed_test c.is_radius.ensures c.if-not-is_radius.false in
    let scaled = passed_test c.is_scale.ensures c.if-not-is_scale.false in (
      passed_test c.is_cell.ensures c.if-not-is_cell.false,
      placed_of _ c.scaled_boundary-boundary.ensures centered radius.0 radius.1 scaled,
    )

pub returns : goal.returns
returns c =
    let radius = passed_test c.is_radius.ensures c.if-not-is_radius.false in
    answer (search centered_passed_as, radius, search scale_passed_as, search cell_passed) (refl, search adjusted_words)
