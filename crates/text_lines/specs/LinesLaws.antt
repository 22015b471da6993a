-- How long a line is. Assumes nothing.
use Rattle.std.specs.Prelude.{ℕ, ◌+◌, ◌*◌, ◌≤◌, List, [], ◌∷◌, map, ◌≡◌, refl, length, get_or, drop}
use Rattle.std.proofs.Common.{arith, length-append, length-take}
use Rattle.text.specs.Text.{hex_of, Puts}
use Rattle.text.specs.TextLaws.{decimal_short, length_hex}
use Rattle.text_lines.specs.Lines.{following, degrees_of, corner_fields, report_line, record_line}

pub report_short : (answer found kept marked : ℕ) → length (report_line answer found kept marked) ≤ 80
unfolding report_line
report_short answer found kept marked =
    simp length-append (omega (arith, decimal_short answer, decimal_short found, decimal_short kept, decimal_short marked))

pub report_ends : (answer found kept marked : ℕ) {at next : ℕ} {before after : List ℕ} → Puts (report_line answer found kept marked) at before next after
    → next ≤ at + 80
report_ends answer found kept marked puts = omega (arith, puts.end, report_short answer found kept marked)

-- eight digits and a space for each
pub length_hexes : (ns : List ℕ) → length (following (map hex_of ns)) ≡ 9 * length ns
length_hexes [] = refl
length_hexes (n ∷ ns) = omega (arith, length-append (hex_of n) (following (map hex_of ns)), length_hex n, length_hexes ns)

pub record_short : (fields : List ℕ) → length (record_line fields) ≤ 200
unfolding record_line
record_short fields =
    simp length-append
    (omega (
      arith,
      decimal_short (get_or fields 0 0),
      decimal_short (get_or fields 1 0),
      decimal_short (get_or fields 2 0),
      decimal_short (get_or fields 26 0),
      decimal_short (get_or fields 27 0),
      decimal_short (degrees_of (get_or fields 28 0)),
      decimal_short (get_or fields 39 0),
      length_hex (get_or fields 25 0),
      length_hexes (corner_fields fields),
      length-take 8 (drop 31 fields),
    ))
