-- `step_exports::guards::all_small` meets its contract.
use Rattle.std.specs.Prelude.{◌≤◌, ◌<◌, ◌≡◌, get_or, length, take}
use Rattle.std.proofs.Common.{arith, sym, below_more, get_or-take, length-take-le}
use Rattle.step_exports.proofs.Guarding.{decides_true, decides_false}
use Rattle.step_exports.proofs.guards.all_small.Goals as goal

pub loop-word-init : goal.loop-word-init
loop-word-init c = record { at = λ k h. absurd (omega arith) }

pub returns-then-word-ge65536 : goal.returns-then-word-ge65536
returns-then-word-ge65536 c =
    let i = c.loop-word.word-index in
    let long : length (take c.args.n c.args.words.now) ≡ c.args.n = length-take-le c.args.n c.args.words.now c.requires in
    let less : i < c.args.n = omega arith in
    let large : 65536 ≤ get_or c.args.words.now i 0 = rw (sym (get_or-take c.args.n c.args.words.now i 0 less)) c.if-word-ge65536.true in
    decides_false λ small. omega (arith, small.at i less)

pub loop-word-preserved : goal.loop-word-preserved
loop-word-preserved c = record { at = below_more _ _ c.loop-word.invariant.at c.if-word-ge65536.false }

pub returns : goal.returns
returns c =
    let long : length (take c.args.n c.args.words.now) ≡ c.args.n = length-take-le c.args.n c.args.words.now c.requires in
    decides_true record { at = λ k h. rw (sym (get_or-take c.args.n c.args.words.now k 0 h)) (c.loop-word.invariant.at k (omega arith)) }
