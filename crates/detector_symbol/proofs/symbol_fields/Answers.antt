-- `detector_symbol::symbol_fields` meets its contract: fourteen stores in a row, from word 26 to the last.
use Rattle.std.proofs.Common.{◌≡◌, ℕ, ◌+◌, ◌≤◌, List, ◌++◌, length, take, set, ap, ◌∙◌, add-one, ◌*◌, sym, get_or, arith, append-nil, drop_of_length-le}
use mathlib.Core.List.{flat_map}
use Rattle.std.proofs.lemmas.List.Edits.{sets, sets-eq}
use Rattle.detector_outcome.specs.Outcomes.{outcome_number, rotation_bits}
use Rattle.detector_symbol.specs.declared.Symbol.{Symbol}
use Rattle.std.specs.Float.{nan}
use Rattle.rxing_result_point.specs.declared.Point.{Point}
use Rattle.detector_symbol.specs.Symbols.{corner_words, four_corners, symbol_words, with_symbol}
use Rattle.detector_symbol.proofs.symbol_fields.Invariants.{with_corners}
use Rattle.detector_symbol.proofs.symbol_fields.Goals as goal

module _ (fields : List ℕ) (s : Symbol) where
  whole : length fields ≡ 40 → sets fields 26 (symbol_words s) ≡ with_symbol fields s
  unfolding with_symbol symbol_words flat_map
  whole e =
      sets-eq (symbol_words s) fields 26 (omega arith)
      ∙ ap (λ (l : List ℕ). take 26 fields ++ symbol_words s ++ l) (drop_of_length-le fields {i = 40} (omega arith))
      ∙ append-nil (take 26 fields ++ symbol_words s)

  abbrev with_turn : ℕ → ℕ → List ℕ
  with_turn n r = set (set (set (set (set fields 26 n) 27 s.turn.scale) 28 r) 29 s.turn.center.x) 30 s.turn.center.y

  -- of corners with the words of the symbol's
  stored : (corners : List Point) {n r i : ℕ} {l : List ℕ} → length fields ≡ 40 → n ≡ outcome_number s.turn.outcome → r ≡ rotation_bits s.turn.outcome
      → 4 ≤ i → i ≤ 4 → l ≡ with_corners (with_turn n r) corners i → four_corners corners ≡ four_corners s.corners → set l 39 s.class ≡ with_symbol fields s
  unfolding symbol_words flat_map
  stored corners {n} {r} {i} e f g low high is same =
      let all : i ≡ 4 = omega arith in
      rw (is, all) (ap (λ (words : List ℕ). set (sets (with_turn n r) 31 words) 39 s.class) same ∙ rw (f, g) (whole e))

one_more : (fields : List ℕ) (corners : List Point) (i : ℕ) {l m : List ℕ} → l ≡ with_corners fields corners i
    → m ≡ sets l (31 + 2 * i) (corner_words (get_or corners i (record { x = nan; y = nan }))) → m ≡ with_corners fields corners (i + 1)
one_more fields corners i e f =
    f ∙ ap (λ (l : List ℕ). sets l (31 + 2 * i) (corner_words (get_or corners i (record { x = nan; y = nan })))) e
    ∙ ap (with_corners fields corners) (sym (add-one i))

pub loop-i-preserved : goal.loop-i-preserved
loop-i-preserved c = search one_more

pub returns : goal.returns
unfolding flat_map
returns c = search stored
