-- `text_lines::put_turn` meets its contract: the two casts are the rotation in whole degrees.
use Rattle.std.proofs.Common.{ℕ, ◌∷◌, ◌≡◌, ap, get_or}
use Rattle.text.specs.Text.{decimal_of}
use Rattle.text.specs.TextLaws.{wrote_then, wrote_as}
use Rattle.text_lines.specs.Lines.{degrees_of}
use Rattle.text_lines.proofs.Parted.{wrote_last}
use Rattle.text_lines.proofs.put_turn.Goals as goal

pub returns-clause-text : goal.returns-clause-text
returns-clause-text c =
    let degrees : c.saturating_f32_to_u32-degrees.result ≡ degrees_of (get_or c.args.fields.now 28 0) = cc in
    wrote_then c.put_named.ensures.text
    (wrote_then c.put_named-2.ensures.text
    (wrote_last (wrote_as (ap (λ (n : ℕ). 32 ∷ decimal_of n) degrees) c.put_named-3.ensures.text) _ c.put_named-4.ensures.text))
