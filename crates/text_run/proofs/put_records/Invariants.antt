-- `text_run::put_records` meets its contract. The invariant is `Lines`: the lines of the records so far are put.
use Rattle.text_run.proofs.Listed.{Lines}
use Rattle.text_run.proofs.put_records.Given as goal

abbrev pub invariant-loop-fields : goal.invariant-loop-fields
invariant-loop-fields l = Lines l.records l.fn.text l.fields-index l.text
