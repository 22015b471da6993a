-- `text::Text::put_next_hex` meets its contract.
use Rattle.text.specs.TextLaws.{wrote_then}
use Rattle.text.proofs.Text.put_next_hex.Goals as goal

pub returns-clause-text : goal.returns-clause-text
returns-clause-text c = wrote_then c.put.ensures.text c.put_hex.ensures.text
