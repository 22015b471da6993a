-- `replay::pack::Vector::kept_words` meets its contract.
use Rattle.std.proofs.Common.{arith}
use Rattle.replay.specs.Pack.{kept_words}
use Rattle.replay.proofs.pack.Vector.kept_words.Goals as goal

pub returns : goal.returns
unfolding kept_words
returns c = (c.if_accepted.ensures.0, omega (arith, c.if_accepted.ensures.1))
