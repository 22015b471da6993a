-- `detector_variance::total_variance` meets its contract.
use Rattle.std.proofs.Common.{◌≡◌}
use Rattle.detector_variance.specs.Variance.{variance_to}
use Rattle.detector_variance.proofs.total_variance.Given as goal

abbrev pub invariant-loop-i : goal.invariant-loop-i
invariant-loop-i l = l.variance ≡ variance_to l.t l.h l.expected l.i
