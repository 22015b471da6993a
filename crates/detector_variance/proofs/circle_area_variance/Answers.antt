-- `detector_variance::circle_area_variance` meets its contract.
use Rattle.std.proofs.Common.{ap₂}
use Rattle.std.specs.Float.Ieee.{add}
use Rattle.std.specs.Float.{binary32}
use Rattle.detector_variance.specs.Variance.{area_variance}
use Rattle.detector_variance.proofs.circle_area_variance.Goals as goal

pub returns : goal.returns
unfolding area_variance
returns c = ap₂ (add binary32) c.abs_f32.ensures c.abs_f32-2.ensures
