-- `detector_variance::calculate_circle_variance` meets its contract: its callees' equations, put together.
use Rattle.detector_variance.proofs.Sums.{variance_is}
use Rattle.detector_variance.proofs.calculate_circle_variance.Goals as goal

pub returns : goal.returns
returns c = search variance_is
