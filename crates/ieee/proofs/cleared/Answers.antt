-- `ieee::cleared` meets its contract: without its highest digit a pattern is that of the size.
use Rattle.std.proofs.Common.{T, sym, subst}
use Rattle.ieee.proofs.Below.{cleared_abs, cleared_number}
use Rattle.ieee.proofs.cleared.Goals as goal

pub float_from_bits-result : goal.float_from_bits-result
float_from_bits-result c = cleared_number c.args.x (subst T (sym c.well_formed.0.1) tt) c.requires

pub returns : goal.returns
returns c = cleared_abs c.args.x (subst T (sym c.well_formed.0.1) tt) c.requires
