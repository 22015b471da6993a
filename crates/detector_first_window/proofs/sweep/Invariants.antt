-- `detector_first_window::sweep` meets its contract. The invariant is `Sweeping`. The measure is the columns left, and those whose changes are not
-- known.
use Rattle.std.proofs.Common.{◌+◌, ◌-◌}
use Rattle.detector_first_window.proofs.Sweeping.{Sweeping}
use Rattle.detector_first_window.proofs.sweep.Given as goal

abbrev pub invariant-loop-stop : goal.invariant-loop-stop
invariant-loop-stop l =
    Sweeping l.image.words.now l.image.shape l.row l.from l.limit l.ring.starts l.ring.present l.column l.stop l.changes

abbrev pub decreases-loop-stop : goal.decreases-loop-stop
decreases-loop-stop l = l.limit - l.column + (l.limit - l.stop)
