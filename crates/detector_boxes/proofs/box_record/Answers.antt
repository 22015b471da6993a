-- `detector_boxes::box_record` meets its contract.
use Rattle.bit_matrix.proofs.ImageLaws.{on_bind, on_is}
use Rattle.detector_boxes.specs.Boxing.{boxed}
use Rattle.detector_boxes.proofs.box_record.Goals as goal

pub returns : goal.returns
unfolding boxed
returns c = search (on_bind, on_is)
