-- `text::Text::put_named` meets its contract.
use Rattle.text.specs.TextLaws.{wrote_then}
use Rattle.text.proofs.Text.put_named.Goals as goal

pub returns-clause-text : goal.returns-clause-text
returns-clause-text c = wrote_then c.put.ensures.text c.put_decimal.ensures.text
