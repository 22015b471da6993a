-- `bit_matrix::BitMatrix::try_get` meets its contract, by the tests on the way to each return and the call's run.
use Rattle.std.proofs.Common.{inl, inr}
use Rattle.bit_matrix.specs.Pixels.{try_get}
use Rattle.bit_matrix.specs.PixelsLaws.{ran_outside}
use Rattle.bit_matrix.proofs.ImageLaws.{kept_same, runs_on}
use Rattle.bit_matrix.proofs.BitMatrix.try_get.Goals as goal
use Rattle.bit_matrix.proofs.BitMatrix.try_get.Goals.{then-x-self-via-then-x-self, then-x-self-via-else-x-self+then-y-self}

pub returns-then-x-self : goal.returns-then-x-self
returns-then-x-self c = record {
  kept = kept_same;
  ran = ran_outside _ _ _ (elim c.then-x-self.branch [
    | then-x-self-via-then-x-self w ↦ inl w.if-x-self.true
    | then-x-self-via-else-x-self+then-y-self w ↦ inr w.if-y-self.true
  ]);
}

pub returns : goal.returns
unfolding try_get
returns c = search runs_on depth 9
