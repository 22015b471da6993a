-- `text::Text::put_hex` meets its contract: the library's fewest digits, and no fewer than eight, are eight.
use Rattle.std.proofs.Common.{arith}
use Rattle.text.specs.TextLaws.{wrote_as}
use Rattle.text.proofs.Numbers.{hex_text, hex_few}
use Rattle.text.proofs.Text.put_hex.Goals as goal

pub put-requires : goal.put-requires
put-requires c =
    let made = c.hex-count.ensures in
    omega (arith, made.in_bounds.0, hex_few _ (omega arith) (omega arith) made.len)

pub returns-clause-text : goal.returns-clause-text
returns-clause-text c =
    let made = c.hex-count.ensures in
    wrote_as (hex_text c.args.n (omega arith) made.len made.digits) c.put.ensures.text

pub returns-clause-len : goal.returns-clause-len
returns-clause-len c =
    let made = c.hex-count.ensures in
    omega (arith, c.put.ensures.len, made.in_bounds.0, hex_few _ (omega arith) (omega arith) made.len)
