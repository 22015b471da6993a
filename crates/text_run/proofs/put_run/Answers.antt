-- `text_run::put_run` meets its contract: the report's line ends within 80 bytes, and the records' lines follow it.
use Rattle.std.proofs.Common.{arith, ap, length, ◌∙◌}
use Rattle.std.proofs.lemmas.Grind.{common_steps}
use Rattle.text_lines.specs.LinesLaws.{report_ends}
use Rattle.text_run.proofs.Listed.{run_put}
use Rattle.text_run.proofs.put_run.Goals as goal

pub put_records-requires : goal.put_records-requires
put_records-requires c =
    let puts = c.put_report.ensures.puts in
    omega (arith, report_ends _ _ _ _ puts, puts.size, c.new-text.ensures.empty.len, ap length c.new-text.ensures.empty.buf, c.front.ensures.1)

pub returns : goal.returns
returns c =
    let same = c.put_records.ensures.same ∙ c.put_report.ensures.same ∙ c.new-text.ensures.same_reference in
    run_put c.args.report.answer c.args.report.found c.args.report.kept c.args.report.marked c.args.records.now c.new-text.ensures.empty c.put_report.ensures c.front.ensures.0
    c.put_records.ensures c.len.ensures (grind (arith, common_steps))
