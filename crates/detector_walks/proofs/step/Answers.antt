-- `detector_walks::step` meets its contract.
use Rattle.std.proofs.Common.{refl, arith}
use Rattle.detector_walks.proofs.Joins.{going_on, going_stop, going_over}
use Rattle.detector_walks.proofs.step.Goals as goal

pub returns-then-not-goes_on-clause-taken : goal.returns-then-not-goes_on-clause-taken
returns-then-not-goes_on-clause-taken g c =
    going_stop _ _ _ _ _ c.loop-i.invariant c.loop-i-test.true (rw c.column-at.ensures at c.goes_on.ensures) (λ i h. refl) c.if-not-goes_on.true

pub loop-i-preserved : goal.loop-i-preserved
loop-i-preserved g c =
    going_on _ _ _ _ _ c.loop-i.invariant c.loop-i-test.true (rw c.column-at.ensures at c.goes_on.ensures) c.if-not-goes_on.false

pub returns-clause-taken : goal.returns-clause-taken
returns-clause-taken g c = going_over _ _ _ _ _ c.loop-i.invariant (λ i h. refl) (omega (arith, c.loop-i-test.false))
