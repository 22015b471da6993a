-- `input::read_full` meets its contract.
use Rattle.std.proofs.Common.{arith, refl, rules}
use Rattle.std.proofs.KnownBytes.{Consumes-nil}
use Rattle.input.proofs.Filled.{consumes_filled}
use Rattle.input.proofs.read_full.Goals as goal

pub loop-done-init : goal.loop-done-init
loop-done-init g c = record { inside = omega arith; bytes = Consumes-nil _ }

pub returns-then-n-eq0-clause-bytes : goal.returns-then-n-eq0-clause-bytes
returns-then-n-eq0-clause-bytes g c =
    consumes_filled _ _ _ _ _ c.in_ok-n.n _ _ _ (omega arith) c.loop-done.invariant.inside c.in_ok-n.ensures.bound.0 c.loop-done.invariant.bytes
    c.in_ok-n.ensures.bytes.0

pub loop-done-preserved : goal.loop-done-preserved
loop-done-preserved g c = record {
  inside = search rules;
  bytes = consumes_filled _ _ _ _ _ _ _ _ _ refl c.loop-done.invariant.inside c.in_ok-n.ensures.bound.0 c.loop-done.invariant.bytes c.in_ok-n.ensures.bytes.0;
}
