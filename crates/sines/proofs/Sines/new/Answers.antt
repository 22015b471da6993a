-- `Sines::new` meets its contract: the code's table is the definition's, entry by entry.
use Rattle.std.proofs.Common.{refl}
use Rattle.std.specs.Float.Ieee.{of_bits}
use Rattle.sines.specs.Sines.{sines}
use Rattle.sines.proofs.Sines.new.Goals as goal

pub invariant_of-result : goal.invariant_of-result
unfolding of_bits sines
invariant_of-result c = record { are_sines = refl }

pub returns : goal.returns
unfolding of_bits sines
returns c = refl
