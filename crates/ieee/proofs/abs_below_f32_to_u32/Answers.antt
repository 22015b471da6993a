-- `ieee::abs_below_f32_to_u32` meets its contract: the whole part stands in the digits of the pattern (`Below.antt`).
use Rattle.std.proofs.Common.{◌/◌, ◌%◌, ◌^◌, not, T, sym, ap, ◌∙◌, subst, Float, is_nan, to_bits}
use Rattle.std.specs.Float.Ieee.{of_bits}
use Rattle.std.specs.Float.{binary64}
use Rattle.ieee.proofs.Below.{Below, below, more}
use Rattle.ieee.proofs.abs_below_f32_to_u32.Goals as goal

at_start : (c : goal.Start) → Below c.args.x
at_start c = below c.args.x (subst T (sym c.well_formed.0.1) tt) c.requires

pub cleared-size-requires : goal.cleared-size-requires
cleared-size-requires c = (at_start c).number

pub float_to_bits-bits : goal.float_to_bits-bits
unfolding of_bits
float_to_bits-bits c = subst (λ (y : Float). T (not (is_nan (more y)))) (sym c.cleared-size.ensures) (at_start c.before.before).more_number

pub returns : goal.returns
unfolding of_bits
returns c = ap (λ (y : Float). to_bits binary64 (more y) / 2 ^ 24 % 2 ^ 28) c.cleared-size.ensures ∙ (at_start c.before.before).whole
