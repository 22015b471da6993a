-- `replay::pack::Vector::mark_words` meets its contract.
use Rattle.std.proofs.Common.{arith}
use Rattle.replay.specs.Pack.{mark_words}
use Rattle.replay.proofs.pack.Vector.mark_words.Goals as goal

pub returns : goal.returns
unfolding mark_words
returns c = (c.if_accepted.ensures.0, omega (arith, c.if_accepted.ensures.1))
