-- `detector_ellipse::Ellipse::check_ellipse_point` meets its contract: the operations of the definition, in its order.
use Rattle.detector_ellipse.specs.Ellipse.{check_ellipse_point}
use Rattle.detector_ellipse.proofs.Ellipse.check_ellipse_point.Goals as goal

pub returns : goal.returns
unfolding check_ellipse_point
returns c = cc
