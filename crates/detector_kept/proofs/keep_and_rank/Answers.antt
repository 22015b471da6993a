-- `detector_kept::keep_and_rank` meets its contract: its callees' equations, put together.
use Rattle.detector_kept.proofs.Composing.{small, rankable, composed}
use Rattle.std.proofs.Common.{rules}
use Rattle.detector_kept.proofs.keep_and_rank.Goals as goal

pub set_variances-requires : goal.set_variances-requires
set_variances-requires c = (search rules, search small)

pub rank_records-requires : goal.rank_records-requires
rank_records-requires c =
    rankable c.requires.0 c.retain_near-kept.ensures c.set_variances.new.records c.set_variances.ensures (search rules) (search rules)

pub returns : goal.returns
returns c =
    composed
    c.requires.0
    c.retain_near-kept.ensures
    c.args.capacity
    c.requires.1
    c.requires.2
    c.calculate_center_point_std_dev-spread.ensures
    c.set_variances.new.records
    c.set_variances.ensures
    c.rank_records.new.records
    c.rank_records.ensures
    (search rules)
    c.clear.new.records
    c.clear.ensures
