-- `detector_ellipse::Ellipse::passes` meets its contract. The literal 1.0, which the code has by its pattern, is `real64 1` once both are unfolded.
use Rattle.std.proofs.Common.{not, ap}
use Rattle.std.specs.Prelude.{Float}
use Rattle.std.specs.Float.Ieee.{lt, of_bits, of_int}
use Rattle.ieee.specs.Whole.{real64}
use Rattle.detector_ellipse.specs.Ellipse.{in_ellipse}
use Rattle.detector_ellipse.proofs.Ellipse.passes.Goals as goal

pub returns : goal.returns
unfolding in_ellipse of_bits of_int
returns c = ap (λ (y : Float). not (lt (real64 1) y)) c.check_ellipse_point.ensures
