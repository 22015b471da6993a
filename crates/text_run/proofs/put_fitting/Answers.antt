-- `text_run::put_fitting` meets its contract.
use Rattle.std.proofs.Common.{arith, sym}
use Rattle.text.specs.TextLaws.{puts_none, puts_as}
use Rattle.text_run.proofs.Fitting.{too_short, too_few, fitting}
use Rattle.text_run.proofs.put_fitting.Goals as goal

pub returns-then-buf-count : goal.returns-then-buf-count
returns-then-buf-count c = puts_as (sym (too_short _ _ _ _ _ _ (omega arith))) (puts_none (omega arith))

pub returns-then-records-count : goal.returns-then-records-count
returns-then-records-count c = puts_as (sym (too_few _ _ _ _ _ _ (omega arith) (omega arith))) (puts_none (omega arith))

pub returns : goal.returns
returns c = puts_as (sym (fitting _ _ _ _ _ _ (omega arith) (omega arith))) c.put_run.ensures
