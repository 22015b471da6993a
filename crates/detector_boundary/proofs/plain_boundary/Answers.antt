-- `detector_boundary::plain_boundary` meets its contract: the size is small.
use Rattle.std.proofs.Common.{sym, subst, arith}
use Rattle.detector_size.specs.SizeLaws.{Sized, plain_sized}
use Rattle.detector_boundary.proofs.plain_boundary.Goals as goal

pub calculate_simple_boundary-requires : goal.calculate_simple_boundary-requires
calculate_simple_boundary-requires c =
    let radius = c.args.radius in
    let size = subst (Sized radius) (sym c.guess_barcode_size.ensures) (plain_sized radius c.requires.1) in
    (c.requires.0, omega (arith, size.narrow), omega (arith, size.low))
