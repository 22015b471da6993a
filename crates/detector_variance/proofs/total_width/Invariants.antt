-- `detector_variance::total_width` meets its contract.
use Rattle.std.proofs.Common.{◌≡◌, ◌*◌, ◌≤◌}
use Rattle.detector_variance.specs.Variance.{width_to}
use Rattle.detector_variance.proofs.total_width.Given as goal

abbrev pub invariant-loop-i : goal.invariant-loop-i
invariant-loop-i l = record { so_far : l.width ≡ width_to l.t l.h l.v l.i; small : l.width ≤ l.i * 131072 }
