-- `ieee::round_floor_f32_to_u32` meets its contract.
use Rattle.std.proofs.Common.{ap, ◌∙◌}
use Rattle.std.specs.Float.Ieee.{to_unsigned}
use Rattle.std.specs.Float.{binary32}
use Rattle.ieee.specs.Integral.{floor}
use Rattle.ieee.proofs.Std.{std_floor, std_round}
use Rattle.ieee.proofs.round_floor_f32_to_u32.Goals as goal

pub returns : goal.returns
returns c =
    c.saturating_f32_to_u32.ensures
    ∙ ap (to_unsigned 32) (c.floor.ensures ∙ std_floor binary32 _ ∙ ap (floor binary32) (c.round.ensures ∙ std_round binary32 c.args.x))
