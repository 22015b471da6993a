-- `detector_kept::retain_near` meets its contract.
use Rattle.std.proofs.Common.{sym, ◌∙◌}
use Rattle.detector_kept.proofs.Retaining.{begins, retained_passed, taken, over}
use Rattle.detector_kept.proofs.retain_near.Goals as goal
use Rattle.detector_kept.proofs.retain_near.Goals.{then-is_near, else-is_near}

pub loop-i-init : goal.loop-i-init
loop-i-init c = search begins

pub loop-i-preserved : goal.loop-i-preserved
loop-i-preserved c =
    let are = c.front-candidates.ensures.0 in
    elim c.if-is_near.branch [
      | then-is_near w ↦
          rw (w.records-is, w.kept-is)
          (taken c.loop-i.invariant c.loop-i-test.true _ are (sym c.is_near.ensures ∙ w.if-is_near.true) w.copy.new.records w.copy.ensures w.copy.auto.records)
      | else-is_near w ↦
          rw (w.records-is, w.kept-is) (retained_passed c.loop-i.invariant c.loop-i-test.true _ are (sym c.is_near.ensures ∙ w.if-is_near.false))
    ]

pub returns : goal.returns
returns c = search over
