-- `detector_variance::expected_area` meets its contract.
use Rattle.std.proofs.Common.{ap, Float}
use Rattle.std.specs.Float.Ieee.{mul, of_bits}
use Rattle.std.specs.Float.{binary32}
use Rattle.detector_variance.specs.Variance.{expected_area}
use Rattle.detector_variance.proofs.expected_area.Goals as goal

pub returns : goal.returns
unfolding expected_area
returns c = ap (λ (x : Float). mul binary32 x (of_bits binary32 0x4049_0fdb)) c.nearest_u32_to_f32.ensures
