-- `text_lines::put_circle` meets its contract.
use Rattle.text.specs.TextLaws.{wrote_then}
use Rattle.text_lines.proofs.Parted.{wrote_last}
use Rattle.text_lines.proofs.put_circle.Goals as goal

pub returns-clause-text : goal.returns-clause-text
returns-clause-text c = wrote_then c.put_decimal.ensures.text (wrote_last c.put_named.ensures.text _ c.put_named-2.ensures.text)
