-- `detector_variance::total_width` meets its contract.
use Rattle.std.proofs.Common.{refl, ◌∙◌, arith}
use Rattle.detector_variance.specs.Variance.{width_to}
use Rattle.detector_variance.proofs.Sums.{run_small, width_taken, width_left}
use Rattle.detector_variance.proofs.total_width.Goals.{then-t-i-eq1, else-t-i-eq1}
use Rattle.detector_variance.proofs.total_width.Goals as goal

pub loop-i-init : goal.loop-i-init
unfolding width_to
loop-i-init c = record { so_far = refl; small = omega arith }

pub loop-i-preserved : goal.loop-i-preserved
loop-i-preserved c =
    let t = c.args.t.now in
    let h = c.args.h.now in
    let v = c.args.v.now in
    let i = c.loop-i.i in
    let so_far = c.loop-i.invariant.so_far in
    elim c.if-t-i-eq1.branch [
      | then-t-i-eq1 w ↦ record {
        so_far = w.width-is ∙ width_taken t h v i c.loop-i.width so_far w.if-t-i-eq1.true;
        small = omega (arith, run_small c.requires.0 i, run_small c.requires.1 i);
      }
      | else-t-i-eq1 w ↦ record { so_far = w.width-is ∙ width_left t h v i c.loop-i.width so_far w.if-t-i-eq1.false; small = omega arith }
    ]
