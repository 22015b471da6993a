-- `detector_candidates::append` meets its contract.
use Rattle.std.proofs.Common.{rules}
use Rattle.detector_candidates.proofs.Storing.{none_more, one_too_many, one_more}
use Rattle.detector_candidates.proofs.append.Goals as goal
use Rattle.detector_candidates.proofs.append.Goals.{then-count-capacity, else-count-capacity}

pub returns-in_default : goal.returns-in_default
returns-in_default c = rw c.in_default.is (none_more c.requires)

pub returns : goal.returns
returns c =
    elim c.if-count-capacity.branch [
      | then-count-capacity w ↦ rw (c.in-Some.is, w.records-is) (one_more c.requires _ w.if-count-capacity.true (search rules) w.store.ensures)
      | else-count-capacity w ↦ rw (c.in-Some.is, w.records-is) (one_too_many c.requires _ w.if-count-capacity.false)
    ]
