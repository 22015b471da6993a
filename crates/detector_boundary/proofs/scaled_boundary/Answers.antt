-- `detector_boundary::scaled_boundary` meets its contract: the size is small.
use Rattle.std.proofs.Common.{sym, subst, arith}
use Rattle.detector_size.specs.SizeLaws.{Sized, scaled_sized}
use Rattle.detector_boundary.proofs.scaled_boundary.Goals as goal

pub calculate_simple_boundary-requires : goal.calculate_simple_boundary-requires
calculate_simple_boundary-requires c =
    let radius = c.args.radius in
    let size = subst (Sized radius) (sym c.guess_barcode_size_general.ensures) (scaled_sized radius c.args.scale c.requires.1 c.requires.2) in
    (c.requires.0, omega (arith, size.narrow), omega (arith, size.low))
