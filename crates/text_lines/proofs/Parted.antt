-- Texts parted by spaces, and the line of a record by its parts. Assumes nothing.
use Rattle.std.proofs.Common.{ℕ, List, [], ◌∷◌, ◌++◌, map, append-nil, append_assoc, ◌≡◌, refl, sym, ap, ◌∙◌, get_or}
use Rattle.text.specs.Text.{ascii, decimal_of, hex_of}
use Rattle.text.specs.TextClauses.{Wrote}
use Rattle.text.specs.declared.Text.{Text}
use Rattle.text.specs.TextLaws.{wrote_then, wrote_as}
use Rattle.text_lines.specs.Lines.{following, parted, circle_fields, turn_fields, corner_fields, hex_fields, record_line}

pub following_append : (ts us : List (List ℕ)) → following (ts ++ us) ≡ following ts ++ following us
following_append [] us = refl
following_append (t ∷ ts) us =
    ap (λ (l : List ℕ). 32 ∷ (t ++ l)) (following_append ts us) ∙ ap (λ (l : List ℕ). 32 ∷ l) (sym (append_assoc t (following ts) (following us)))

-- the last text, after a space
pub wrote_last : {t : List ℕ} {a b c : Text} → Wrote t a b → (u : List ℕ) → Wrote (32 ∷ u) b c → Wrote (t ++ following (u ∷ [])) a c
wrote_last {t} first u second = wrote_as (ap (λ (l : List ℕ). t ++ (32 ∷ l)) (sym (append-nil u))) (wrote_then first second)

parted_three : (t : List ℕ) (ts us vs : List (List ℕ)) → parted (t ∷ ts) ++ following us ++ following vs ≡ parted (t ∷ (ts ++ us ++ vs))
parted_three t ts us vs =
    ap (λ (l : List ℕ). l ++ following vs) (append_assoc t (following ts) (following us)) ∙ append_assoc t (following ts ++ following us) (following vs)
    ∙ ap (λ (l : List ℕ). t ++ (l ++ following vs)) (sym (following_append ts us)) ∙ ap (λ (l : List ℕ). t ++ l) (sym (following_append (ts ++ us) vs))

-- the line of a record, part by part
pub wrote_line : (fields : List ℕ) {a b c d e f : Text} → Wrote (parted (map decimal_of (circle_fields fields))) a b
    → Wrote (following (map decimal_of (turn_fields fields))) b c → Wrote (ascii " " ++ hex_of (get_or fields 25 0)) c d
    → Wrote (following (map hex_of (corner_fields fields))) d e → Wrote (ascii "\n") e f → Wrote (record_line fields) a f
unfolding record_line
wrote_line fields circle turn variance corners end =
    let all =
    parted_three (decimal_of (get_or fields 0 0)) (decimal_of (get_or fields 1 0) ∷ decimal_of (get_or fields 2 0) ∷ [])
    (map decimal_of (turn_fields fields)) (map hex_of (hex_fields fields)) in
    wrote_then (wrote_as all (wrote_then (wrote_then circle turn) (wrote_then variance corners))) end
