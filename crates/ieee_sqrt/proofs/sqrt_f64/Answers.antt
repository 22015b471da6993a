-- `ieee_sqrt::sqrt_f64` meets its contract: std's root is `sqrt`.
use Rattle.std.proofs.Common.{T, sym, ◌∙◌, subst}
use Rattle.std.specs.Float.{binary64}
use Rattle.ieee_sqrt.proofs.Sqrt.{std_sqrt}
use Rattle.ieee_sqrt.proofs.sqrt_f64.Goals as goal

pub returns : goal.returns
returns c = c.sqrt.ensures.value ∙ std_sqrt binary64 c.args.x (subst T (sym c.well_formed.0.1) tt)
