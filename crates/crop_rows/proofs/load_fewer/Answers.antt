-- `crop_rows::load_fewer` meets its contract.
use Rattle.std.proofs.Common.{arith, ◌∙◌}
use Rattle.crop_rows.proofs.Loads.{parted}
use Rattle.crop_rows.proofs.load_fewer.Goals as goal

pub returns-in-Some : goal.returns-in-Some
returns-in-Some c =
    let cases = c.in-Some.ensures.cases in
    parted c.args.bytes.now (λ i. omega (arith, c.type_inv.bytes i)) 1 c.in-Some.two.now c.in-Some.rest.now (omega arith) cases.2 cases.0 cases.1
    (c.from.ensures ∙ c.from_le_bytes.ensures) c.load_last.ensures
