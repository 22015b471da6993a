-- `records::load` meets its contract: a copy of 40 words into an array.
use Rattle.std.proofs.Common.{sym, ◌∙◌, append-nil, zero-add, rules}
use Rattle.records.specs.RecordsLaws.{length_get, get_word}
use Rattle.records.specs.CopiesLaws.{begins, onward, over}
use Rattle.records.proofs.load.Goals as goal

pub loop-k-init : goal.loop-k-init
loop-k-init c = search (begins, length_get, rules)

pub loop-k-preserved : goal.loop-k-preserved
loop-k-preserved c =
    let k = c.loop-k.k in
    onward c.loop-k.invariant (search rules) (sym (zero-add k))
    (sym (get_word c.args.records.now c.args.i k (search rules)))

pub returns : goal.returns
returns c = over c.loop-k.invariant (search rules) ∙ append-nil _
