-- `detector_walks::Ray::width_of` meets its contract: what the calls ensure, put together.
use Rattle.detector_walks.specs.Walks.{width_of}
use Rattle.detector_walks.proofs.Ray.width_of.Goals as goal

pub returns : goal.returns
unfolding width_of
returns c = cc
