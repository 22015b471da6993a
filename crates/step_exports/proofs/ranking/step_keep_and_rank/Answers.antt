-- `step_exports::ranking::step_keep_and_rank` meets its contract.
use Rattle.std.proofs.Common.{rules}
use Rattle.step_exports.proofs.Guarding.{passed_test, answer, candidates, kept_as}
use Rattle.step_exports.proofs.ranking.step_keep_and_rank.Goals as goal

pub keep_and_rank-requires : goal.keep_and_rank-requires
keep_and_rank-requires c = (candidates (passed_test c.are_candidates.ensures c.if-not-are_candidates.false), search rules, search rules)

pub returns : goal.returns
returns c = answer (passed_test c.are_candidates.ensures c.if-not-are_candidates.false) (search kept_as)
