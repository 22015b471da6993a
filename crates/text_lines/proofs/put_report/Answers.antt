-- `text_lines::put_report` meets its contract: the four counts, each after its name, and the line feed.
use Rattle.text.specs.Text.{ascii}
use Rattle.text.specs.TextLaws.{wrote_then, wrote_named}
use Rattle.text_lines.specs.Lines.{report_line}
use Rattle.text_lines.proofs.put_report.Goals as goal

pub returns : goal.returns
unfolding report_line
returns c =
    wrote_then
    (wrote_named (ascii " marked ") _
    (wrote_named (ascii " kept ") _
    (wrote_named (ascii " found ") _ c.put_named.ensures.text c.put_named-2.ensures.text)
    c.put_named-3.ensures.text)
    c.put_named-4.ensures.text)
    c.put.ensures.text
