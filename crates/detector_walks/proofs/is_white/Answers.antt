-- `detector_walks::is_white` meets its contract, by its test and the run of the call.
use Rattle.bit_matrix.proofs.ImageLaws.{runs_on}
use Rattle.detector_walks.specs.Walks.{white_pixel}
use Rattle.detector_walks.proofs.is_white.Goals as goal

pub returns-then-check_in_bounds : goal.returns-then-check_in_bounds
unfolding white_pixel
returns-then-check_in_bounds c =
    let out = rw c.unmarked.ensures.shape at c.check_in_bounds.ensures in
    search runs_on depth 9

pub returns : goal.returns
unfolding white_pixel
returns c =
    let out = rw c.unmarked.ensures.shape at c.check_in_bounds.ensures in
    search runs_on depth 9
