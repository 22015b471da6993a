-- `detector_points::adjust_point_alternate` meets its contract: its products are small.
use Rattle.detector_points.specs.Orientation.{adjusted_point}
use Rattle.detector_points.proofs.adjust_point_alternate.Goals as goal

pub returns : goal.returns
unfolding adjusted_point
returns c = cc
