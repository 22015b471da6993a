-- `Circle::calculate_high_accuracy_center` meets its contract: what the call ensures, with the radius kept.
use Rattle.bit_matrix.proofs.ImageLaws.{on_bind, on_done}
use Rattle.detector_circle.specs.Circle.{corrected_circle}
use Rattle.detector_circle.proofs.Circle.calculate_high_accuracy_center.Goals as goal

pub returns : goal.returns
unfolding corrected_circle
returns c = search (on_bind, on_done)
