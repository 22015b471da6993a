-- `detector_variance::total_variance` meets its contract.
use Rattle.std.proofs.Common.{refl, ◌∙◌}
use Rattle.detector_variance.specs.Variance.{variance_to}
use Rattle.detector_variance.proofs.Sums.{variance_taken, variance_left}
use Rattle.detector_variance.proofs.total_variance.Goals.{then-t-i-eq1, else-t-i-eq1}
use Rattle.detector_variance.proofs.total_variance.Goals as goal

pub loop-i-init : goal.loop-i-init
unfolding variance_to
loop-i-init c = refl

pub loop-i-preserved : goal.loop-i-preserved
loop-i-preserved c =
    let t = c.args.t.now in
    let h = c.args.h.now in
    let i = c.loop-i.i in
    let d = c.loop-i.variance in
    elim c.if-t-i-eq1.branch [
      | then-t-i-eq1 w ↦ w.variance-is ∙ w.further_by-variance.ensures ∙ variance_taken t h c.args.expected d i c.loop-i.invariant w.if-t-i-eq1.true
      | else-t-i-eq1 w ↦ w.variance-is ∙ variance_left t h c.args.expected d i c.loop-i.invariant w.if-t-i-eq1.false
    ]
