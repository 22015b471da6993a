-- `ieee::abs_small_f32_to_u32` meets its contract: 2 ^ 23 more than the size is the whole part or one above it, and the test tells which
-- (`Small.antt`).
use Rattle.std.proofs.Common.{◌-◌, ◌%◌, ◌^◌, ◌≤◌, not, T, sym, ap, ◌∙◌, subst, Float, is_nan, to_bits}
use Rattle.std.specs.Float.Ieee.{lt, of_bits}
use Rattle.std.specs.Float.{binary32}
use mir.Val.{bool_byte}
use Rattle.ieee.proofs.Small.{Small, small, moved, back}
use Rattle.ieee.proofs.abs_small_f32_to_u32.Goals as goal

at_start : (c : goal.Start) → Small c.args.x
at_start c = small c.args.x (subst T (sym c.well_formed.0.1) tt) c.requires

pub cleared-size-requires : goal.cleared-size-requires
cleared-size-requires c = (at_start c).sign.number

pub float_to_bits-result : goal.float_to_bits-result
unfolding of_bits
float_to_bits-result c = subst (λ (y : Float). T (not (is_nan (moved y)))) (sym c.cleared-size.ensures) (at_start c.before).moved_number

pub overflow_sub-result : goal.overflow_sub-result
unfolding of_bits
overflow_sub-result c =
    subst (λ (y : Float). bool_byte (lt y (back y)) ≤ to_bits binary32 (moved y) % 2 ^ 23) (sym c.cleared-size.ensures) (at_start c.before).enough

pub returns : goal.returns
unfolding of_bits
returns c =
    ap (λ (y : Float). to_bits binary32 (moved y) % 2 ^ 23 - bool_byte (lt y (back y))) c.cleared-size.ensures ∙ (at_start c.before).whole
