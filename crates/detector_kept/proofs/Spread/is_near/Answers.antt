-- `detector_kept::Spread::is_near` meets its contract: both coordinates.
use Rattle.std.proofs.Common.{rules}
use Rattle.detector_kept.specs.Retain.{near}
use Rattle.detector_kept.proofs.Spread.is_near.Goals as goal

pub returns : goal.returns
unfolding near
returns c = search rules
