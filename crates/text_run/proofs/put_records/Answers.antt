-- `text_run::put_records` meets its contract.
use Rattle.std.proofs.Common.{arith}
use Rattle.text_run.proofs.Listed.{lines_begin, lines_then, lines_end}
use Rattle.text_run.proofs.put_records.Goals as goal

pub loop-fields-init : goal.loop-fields-init
loop-fields-init c = lines_begin (omega (arith, c.requires))

pub loop-fields-preserved : goal.loop-fields-preserved
loop-fields-preserved c = lines_then c.loop-fields-test.true c.put_record.ensures c.loop-fields.invariant

pub returns : goal.returns
returns c = lines_end c.loop-fields-test.false c.loop-fields.invariant
