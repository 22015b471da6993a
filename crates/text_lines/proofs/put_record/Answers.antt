-- `text_lines::put_record` meets its contract, part by part.
use Rattle.text_lines.proofs.Parted.{wrote_line}
use Rattle.text_lines.proofs.put_record.Goals as goal

pub returns : goal.returns
returns c = wrote_line c.args.fields.now c.put_circle.ensures.text c.put_turn.ensures.text c.put_next_hex.ensures.text c.put_corners.ensures.text c.put.ensures.text
