-- `detector_verdict::verdict` meets its contract: one lemma for each answer.
use Rattle.detector_verdict.proofs.Judging.{too_many, none_found, set_aside, some_kept}
use Rattle.detector_verdict.proofs.verdict.Goals as goal

pub returns-then-found-capacity : goal.returns-then-found-capacity
returns-then-found-capacity c = λ candidates holds. search too_many

pub returns-then-found-eq0 : goal.returns-then-found-eq0
returns-then-found-eq0 c = λ candidates holds. search none_found

pub returns-then-kept-eq0 : goal.returns-then-kept-eq0
returns-then-kept-eq0 c = λ candidates holds. search set_aside

pub returns : goal.returns
returns c = λ candidates holds. search some_kept
