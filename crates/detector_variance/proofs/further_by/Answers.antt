-- `detector_variance::further_by` meets its contract.
use Rattle.std.proofs.Common.{ap, ◌∙◌, Float}
use Rattle.std.specs.Float.Ieee.{add, sub}
use Rattle.std.specs.Float.{binary32}
use Rattle.ieee.specs.Sign.{abs}
use Rattle.detector_variance.specs.Variance.{further}
use Rattle.detector_variance.proofs.further_by.Goals as goal

pub returns : goal.returns
unfolding further
returns c =
    let a = c.args in
    ap (add binary32 a.acc) (c.abs_f32.ensures ∙ ap (λ (x : Float). abs (sub binary32 a.expected x)) c.nearest_u32_to_f32.ensures)
