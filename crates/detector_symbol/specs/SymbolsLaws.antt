-- A record with a symbol's words is whole, and what they are word by word. Assumes nothing.
use Rattle.std.specs.Prelude.{ℕ, ◌+◌, ◌≡◌, length, get_or, take, drop, List, ◌++◌}
use Rattle.std.proofs.Common.{arith, sym, ap, ◌∙◌, length-append, take_at, drop_at, drop-drop, length-take-le, get_or-append-add}
use mathlib.Core.List.{flat_map}
use Rattle.records.specs.Fields as field
use Rattle.detector_outcome.specs.Outcomes.{outcome_number, rotation_bits}
use Rattle.detector_symbol.specs.declared.Symbol.{Symbol}
use Rattle.detector_symbol.specs.Symbols.{four_corners, symbol_words, with_symbol}

-- a record keeps its first 26 words
pub first_kept : (fields : List ℕ) (s : Symbol) → length fields ≡ 40 → take 26 (with_symbol fields s) ≡ take 26 fields
unfolding with_symbol
first_kept fields s e = take_at (take 26 fields) (symbol_words s) 26 (length-take-le 26 fields (omega arith))

pub whole_symbol : (fields : List ℕ) (s : Symbol) → length fields ≡ 40 → length (with_symbol fields s) ≡ 40
unfolding with_symbol symbol_words flat_map
whole_symbol fields s e = simp length-append (omega (arith, length-take-le 26 fields (omega arith)))

-- the symbol's words by their names
pub record SymbolFields (r : List ℕ) (s : Symbol) : Type 0 where
  pub outcome : get_or r field.outcome 0 ≡ outcome_number s.turn.outcome
  pub scale : get_or r field.scale 0 ≡ s.turn.scale
  pub rotation : get_or r field.rotation 0 ≡ rotation_bits s.turn.outcome
  pub last_x : get_or r field.last_center_x 0 ≡ s.turn.center.x
  pub last_y : get_or r field.last_center_y 0 ≡ s.turn.center.y
  pub corners : take 8 (drop field.corners r) ≡ four_corners s.corners
  pub class : get_or r field.class 0 ≡ s.class

pub symbol_fields : (fields : List ℕ) (s : Symbol) → length fields ≡ 40 → SymbolFields (with_symbol fields s) s
unfolding with_symbol symbol_words flat_map
symbol_fields fields s e =
    let front : length (take 26 fields) ≡ 26 = length-take-le 26 fields (omega arith) in
    let word : (k : ℕ) → get_or (take 26 fields ++ symbol_words s) (26 + k) 0 ≡ get_or (symbol_words s) k 0 =
    λ k. ap (λ (n : ℕ). get_or (take 26 fields ++ symbol_words s) (n + k) 0) (sym front) ∙ get_or-append-add (take 26 fields) (symbol_words s) k 0 in
    record {
      outcome = word 0;
      scale = word 1;
      rotation = word 2;
      last_x = word 3;
      last_y = word 4;
      corners = ap (take 8) (sym (drop-drop 5 26 (take 26 fields ++ symbol_words s)) ∙ ap (drop 5) (drop_at (take 26 fields) (symbol_words s) 26 front));
      class = word 13;
    }
