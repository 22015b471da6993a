-- A symbol's words in a record. Definitions only. Assumes nothing.
use Rattle.std.specs.Prelude.{ℕ, get_or, take, List, [], ◌∷◌, ◌++◌}
use mathlib.Core.List.{flat_map}
use Rattle.std.specs.Float.{nan, binary32}
use Rattle.std.specs.Float.Ieee.{to_bits}
use Rattle.records.specs.Fields as field
use Rattle.rxing_result_point.specs.declared.Point.{Point}
use Rattle.detector_outcome.specs.Outcomes.{outcome_number, rotation_bits}
use Rattle.detector_symbol.specs.declared.Symbol.{Symbol}

-- a corner's two words
abbrev pub corner_words : Point → List ℕ
corner_words p = to_bits binary32 p.x ∷ to_bits binary32 p.y ∷ []

-- those of four corners
abbrev pub four_corners : List Point → List ℕ
four_corners ps = flat_map (λ k. corner_words (get_or ps k (record { x = nan; y = nan }))) (0 ∷ 1 ∷ 2 ∷ 3 ∷ [])

-- a record's words 26 to 39 (docs/MANUAL.md, "Records and printed lines"): outcome, scale, rotation, centre, corners, class
unfoldable pub symbol_words : Symbol → List ℕ
symbol_words s =
    let turn = s.turn in
    outcome_number turn.outcome ∷ turn.scale ∷ rotation_bits turn.outcome ∷ turn.center.x ∷ turn.center.y ∷ four_corners s.corners ++ (s.class ∷ [])

-- a record of 40 words with those of the symbol, from its outcome on
unfoldable pub with_symbol : List ℕ → Symbol → List ℕ
with_symbol fields s = take field.outcome fields ++ symbol_words s
