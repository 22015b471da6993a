-- `detector_variances::set_variances` meets its contract. The invariant: the records passed have their variance, and the others are as they were.
use Rattle.detector_variances.proofs.Varying.{Varying}
use Rattle.detector_variances.proofs.set_variances.Given as goal

abbrev pub invariant-loop-i : goal.invariant-loop-i
invariant-loop-i l = Varying l.count l.initial.records l.records l.i
