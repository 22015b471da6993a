-- `ieee::abs_f32` meets its contract.
use Rattle.std.proofs.Common.{◌∙◌}
use Rattle.ieee.proofs.Std.{std_abs}
use Rattle.ieee.proofs.abs_f32.Goals as goal

pub returns : goal.returns
returns c = c.abs.ensures.value ∙ std_abs c.args.x
