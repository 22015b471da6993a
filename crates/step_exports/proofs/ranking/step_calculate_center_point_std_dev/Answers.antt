-- `step_exports::ranking::step_calculate_center_point_std_dev` meets its contract.
use Rattle.std.proofs.Common.{refl}
use Rattle.step_exports.proofs.Guarding.{passed_test, answer, candidates, spread_words_lem}
use Rattle.step_exports.proofs.ranking.step_calculate_center_point_std_dev.Goals as goal

pub calculate_center_point_std_dev-spread-requires : goal.calculate_center_point_std_dev-spread-requires
calculate_center_point_std_dev-spread-requires c = candidates (passed_test c.are_candidates.ensures c.if-not-are_candidates.false)

pub returns : goal.returns
returns c = answer (passed_test c.are_candidates.ensures c.if-not-are_candidates.false) (refl, search spread_words_lem)
