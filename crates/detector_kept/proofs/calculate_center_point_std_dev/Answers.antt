-- `detector_kept::calculate_center_point_std_dev` meets its contract: the two coordinates.
use Rattle.std.proofs.Common.{rules}
use Rattle.detector_kept.specs.Spread.{spread}
use Rattle.detector_kept.proofs.calculate_center_point_std_dev.Goals as goal

pub returns : goal.returns
unfolding spread
returns c = search rules
