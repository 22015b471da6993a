-- `detector_kept::retain_near` meets its contract. The invariant: the front holds what is retained of the records passed, and the others are
-- unmoved.
use Rattle.detector_kept.proofs.Retaining.{Retaining}
use Rattle.detector_kept.proofs.retain_near.Given as goal

abbrev pub invariant-loop-i : goal.invariant-loop-i
invariant-loop-i l = Retaining l.found l.spread l.fn.records l.records l.kept l.i
