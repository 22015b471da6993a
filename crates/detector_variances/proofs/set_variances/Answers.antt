-- `detector_variances::set_variances` meets its contract.
use Rattle.detector_variances.proofs.Varying.{begins, small, bits_are, onward, over}
use Rattle.std.proofs.Common.{rules}
use Rattle.detector_variances.proofs.set_variances.Goals as goal

pub loop-i-init : goal.loop-i-init
loop-i-init c = search begins

pub variance_bits-bits-requires : goal.variance_bits-bits-requires
variance_bits-bits-requires c = small c.loop-i.invariant (search rules) c.front.result.now c.front.ensures.0 c.requires.1

pub loop-i-preserved : goal.loop-i-preserved
loop-i-preserved c = search (onward, bits_are)

pub returns : goal.returns
returns c = search over
