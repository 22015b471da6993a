-- `detector_symbol::symbol_fields` meets its contract: the corners before the present one are stored.
use Rattle.std.specs.Prelude.{◌≡◌, ℕ, zero, suc, ◌+◌, ◌*◌, List, get_or}
use Rattle.std.specs.Float.{nan}
use Rattle.std.proofs.lemmas.List.Edits.{sets}
use Rattle.rxing_result_point.specs.declared.Point.{Point}
use Rattle.detector_symbol.specs.Symbols.{corner_words}
use Rattle.detector_symbol.proofs.symbol_fields.Given as goal

-- the first n corners, each in its two words
abbrev pub with_corners : List ℕ → List Point → ℕ → List ℕ
with_corners fields corners zero = fields
with_corners fields corners (suc n) =
    sets (with_corners fields corners n) (31 + 2 * n) (corner_words (get_or corners n (record { x = nan; y = nan })))

abbrev pub invariant-loop-i : goal.invariant-loop-i
invariant-loop-i l = l.fields ≡ with_corners l.initial.fields l.corner-items l.i
