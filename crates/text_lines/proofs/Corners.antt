-- The corners of a record, one word after the other: k are put. Assumes nothing.
use Rattle.std.proofs.Common.{ℕ, ◌+◌, ◌≤◌, ◌<◌, add-one, arith, List, [], ◌∷◌, ◌++◌, map, append-nil, ◌≡◌, sym, ap, ◌∙◌, length, get_or, take, drop, length-take, length-drop, take-suc, take_all}
use Rattle.std.proofs.lemmas.List.{map-append}
use Rattle.text.specs.Text.{hex_of}
use Rattle.text.specs.TextClauses.{HasRoom, Wrote, Grown}
use Rattle.text.specs.declared.Text.{Text}
use Rattle.text.specs.TextLaws.{wrote_then, wrote_as, room_then}
use Rattle.text_lines.specs.Lines.{following, corner_fields}
use Rattle.text_lines.specs.LinesLaws.{length_hexes}
use Rattle.text_lines.proofs.Parted.{following_append}

abbrev corners : List ℕ → List ℕ
corners fields = take 8 (drop 31 fields)

pub corners_long : (fields : List ℕ) → length fields ≡ 40 → length (corners fields) ≡ 8
corners_long fields whole = omega (arith, length-take 8 (drop 31 fields), length-drop 31 fields)

pub record Corners (fields : List ℕ) (before : Text) (k : ℕ) (now : Text) : Type 0 where
  pub few : k ≤ 8
  pub wrote : Wrote (following (map hex_of (take k (corners fields)))) before now

module _ {fields : List ℕ} {before : Text} where
  pub corners_room : {k : ℕ} {now : Text} → k < 8 → HasRoom 72 before → Corners fields before k now → HasRoom 9 now
  corners_room {k} {now} less room so_far =
      room_then so_far.wrote 72 9 room
      (rw length_hexes (omega (arith, length-take k (corners fields))))

  pub corners_more : {k : ℕ} {now after : Text} → length (corners fields) ≡ 8 → k < 8
      → Wrote (32 ∷ hex_of (get_or (corners fields) k 0)) now after → Corners fields before k now → Corners fields before (k + 1) after
  corners_more {k} {now} {after} whole less wrote so_far = record {
    few = omega arith;
    wrote = wrote_as text (wrote_then so_far.wrote wrote);
  }
    where
      word : ℕ
      word = get_or (corners fields) k 0

      one_more : take (k + 1) (corners fields) ≡ take k (corners fields) ++ (word ∷ [])
      one_more = ap (λ (n : ℕ). take n (corners fields)) (add-one k) ∙ take-suc (corners fields) k 0 (omega (arith, whole))

      text : following (map hex_of (take k (corners fields))) ++ (32 ∷ hex_of word) ≡ following (map hex_of (take (k + 1) (corners fields)))
      text =
          ap (λ (l : List ℕ). following (map hex_of (take k (corners fields))) ++ (32 ∷ l)) (sym (append-nil (hex_of word)))
          ∙ sym (following_append (map hex_of (take k (corners fields))) (hex_of word ∷ []))
          ∙ ap following (sym (map-append hex_of (take k (corners fields)) (word ∷ []))) ∙ ap (λ (l : List ℕ). following (map hex_of l)) (sym one_more)

  pub corners_end : {k : ℕ} {now : Text} → length (corners fields) ≤ k → Corners fields before k now
      → Wrote (following (map hex_of (corner_fields fields))) before now
  corners_end {k = k} all done = wrote_as (ap (λ (l : List ℕ). following (map hex_of l)) (take_all k (corners fields) all)) done.wrote

pub corners_grown : (fields : List ℕ) {before now : Text} → Wrote (following (map hex_of (corner_fields fields))) before now → Grown 72 before now
corners_grown fields wrote =
    (omega (arith, wrote.puts.end, length_hexes (corner_fields fields), length-take 8 (drop 31 fields)), wrote.puts.size)
