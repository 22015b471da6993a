-- `crop_rows::load_last` meets its contract.
use Rattle.std.specs.Prelude.{ℕ, ◌*◌, ◌≡◌, length}
use Rattle.std.proofs.Common.{arith, sym, ap, ◌∙◌, eqb-true}
use Rattle.std.proofs.lemmas.Bool.{eqb-false}
use Rattle.crop_padding.specs.Below.{number}
use Rattle.crop_rows.specs.Bytes.{byte_bit}
use Rattle.crop_rows.proofs.Loads.{single}
use Rattle.crop_rows.proofs.load_last.Goals as goal

pub returns-then-is_empty : goal.returns-then-is_empty
unfolding number
returns-then-is_empty c =
    let none : length c.args.bytes.now ≡ 0 = eqb-true _ _ (sym c.is_empty.ensures ∙ c.if-is_empty.true) in
    sym (ap (λ (n : ℕ). number (byte_bit c.args.bytes.now 0) (8 * n)) none)

pub returns : goal.returns
returns c =
    let some : length c.args.bytes.now ≡ 0 → ⊥ = eqb-false _ _ (sym c.is_empty.ensures ∙ c.if-is_empty.false) in
    c.from.ensures ∙ single c.args.bytes.now (λ i. omega (arith, c.type_inv.bytes i)) (omega (arith, some))
