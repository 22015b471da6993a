-- `Sines::sine` meets its contract: the table is the definition's.
use Rattle.std.proofs.Common.{ap, List, get_or}
use Rattle.std.specs.Prelude.{Float, ◌%◌}
use Rattle.std.specs.Float.{nan}
use Rattle.sines.specs.Sines.{sine_of}
use Rattle.sines.proofs.Sines.sine.Goals as goal

pub returns : goal.returns
unfolding sine_of
returns c = ap (λ (t : List Float). get_or t (c.args.degree % 360) nan) c.args.self.now.are_sines
