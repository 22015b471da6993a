-- `ieee::abs_f32_to_u32` meets its contract.
use Rattle.std.proofs.Common.{T, sym, ap, ◌∙◌, subst, Float}
use Rattle.std.specs.Float.Ieee.{lt, of_bits, to_unsigned}
use Rattle.std.specs.Float.{fin}
use Rattle.std.proofs.Common.{false, pos}
use Rattle.ieee.proofs.Std.{std_abs}
use Rattle.ieee.proofs.abs_f32_to_u32.Goals as goal

pub abs_below_f32_to_u32-requires : goal.abs_below_f32_to_u32-requires
unfolding of_bits
abs_below_f32_to_u32-requires c =
    subst (λ (y : Float). T (lt y (fin false 1 (pos 28)))) (c.abs-size.ensures.value ∙ std_abs c.args.x) (subst T (sym c.if-size.true) tt)

pub returns-else-size : goal.returns-else-size
returns-else-size c = c.saturating_f32_to_u32.ensures ∙ ap (to_unsigned 32) (c.abs-size.ensures.value ∙ std_abs c.args.x)
