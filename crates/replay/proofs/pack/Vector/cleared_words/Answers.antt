-- `replay::pack::Vector::cleared_words` meets its contract.
use Rattle.replay.specs.Pack.{cleared_words}
use Rattle.replay.proofs.pack.Vector.cleared_words.Goals as goal

pub returns : goal.returns
unfolding cleared_words
returns c = rw c.min.ensures at c.if_accepted.ensures.0
