-- `text::Text::put_decimal` meets its contract: the library's fewest digits are the definition's.
use Rattle.std.proofs.Common.{arith}
use Rattle.text.specs.TextLaws.{wrote_as}
use Rattle.text.proofs.Numbers.{decimal_text, decimal_places}
use Rattle.text.proofs.Text.put_decimal.Goals as goal

pub put-requires : goal.put-requires
put-requires c =
    let made = c.decimal-count.ensures in
    omega (arith, made.in_bounds.0, decimal_places _ (omega arith) made.len)

pub returns-clause-text : goal.returns-clause-text
returns-clause-text c =
    let made = c.decimal-count.ensures in
    wrote_as (decimal_text c.args.n (omega arith) made.len made.digits) c.put.ensures.text

pub returns-clause-len : goal.returns-clause-len
returns-clause-len c =
    let made = c.decimal-count.ensures in
    omega (arith, c.put.ensures.len, made.in_bounds.0, decimal_places _ (omega arith) made.len)
