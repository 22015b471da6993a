-- `detector_candidate::bullseye_passed` meets its contract, by the record.
use Rattle.detector_candidate.specs.Candidate.{passed}
use Rattle.detector_candidate.proofs.bullseye_passed.Goals as goal

pub returns : goal.returns
unfolding passed
returns c = rw c.candidate_of.ensures
