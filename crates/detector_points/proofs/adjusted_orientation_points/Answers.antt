-- `detector_points::adjusted_orientation_points` meets its contract: what the calls ensure, put together.
use Rattle.detector_points.specs.Orientation.{orientation_points}
use Rattle.detector_points.proofs.adjusted_orientation_points.Goals as goal

pub returns : goal.returns
unfolding orientation_points
returns c = cc
