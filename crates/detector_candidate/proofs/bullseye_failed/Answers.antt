-- `detector_candidate::bullseye_failed` meets its contract, by the test.
use Rattle.std.proofs.Common.{eq-eqb, ne_eqb}
use Rattle.detector_candidate.specs.Candidate.{failed}
use Rattle.detector_candidate.proofs.bullseye_failed.Goals as goal

pub returns-then-next-column : goal.returns-then-next-column
unfolding failed
returns-then-next-column c = rw (eq-eqb _ _ c.if-next-column.true)

pub returns-else-next-column : goal.returns-else-next-column
unfolding failed
returns-else-next-column c = rw (ne_eqb _ _ c.if-next-column.false)
