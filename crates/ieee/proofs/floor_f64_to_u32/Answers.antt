-- `ieee::floor_f64_to_u32` meets its contract.
use Rattle.std.proofs.Common.{ap, ◌∙◌}
use Rattle.std.specs.Float.Ieee.{to_unsigned}
use Rattle.std.specs.Float.{binary64}
use Rattle.ieee.proofs.Std.{std_floor}
use Rattle.ieee.proofs.floor_f64_to_u32.Goals as goal

pub returns : goal.returns
returns c = c.saturating_f64_to_u32.ensures ∙ ap (to_unsigned 32) (c.floor.ensures ∙ std_floor binary64 c.args.x)
