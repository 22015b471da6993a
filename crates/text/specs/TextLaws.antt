-- Laws of text put into a buffer, and of the length of a number as text. Assumes nothing.
use Rattle.std.specs.Prelude.{ℕ, zero, suc, ◌+◌, ◌/◌, ◌^◌, ◌≤◌, Bool, true, false, cond, List, [], ◌++◌, ◌≡◌, refl, ltb, length, take, drop}
use Rattle.std.proofs.Common.{add-one, arith, append-nil, append_assoc, sym, ap, subst, ◌∙◌, length-append, drop-drop, length-take-le}
use Rattle.io.specs.Digits.{last_digits}
use Rattle.text.specs.Text.{places, decimal_of, hex_of, Puts}
use Rattle.text.specs.TextClauses.{HasRoom, Wrote}
use Rattle.text.specs.declared.Text.{Text}

-- ---- text put into a buffer

-- one text after another
pub puts_then : {s t : List ℕ} {at m next : ℕ} {before mid after : List ℕ} → Puts s at before m mid → Puts t m mid next after
    → Puts (s ++ t) at before next after
puts_then {s} {t} {at} {m} {next} {before} {mid} first second = record {
  end = omega (arith, first.end, second.end, length-append s t);
  front = second.front ∙ ap (λ (l : List ℕ). l ++ t) first.front ∙ append_assoc (take at before) s t;
  rest = second.rest ∙ later;
  size = second.size ∙ first.size;
  room = second.room;
  part = second.part;
}
  where
    -- what lies past both texts lies past the first
    later : drop next mid ≡ drop next before
    later =
        ap (λ (n : ℕ). drop n mid) second.end ∙ sym (drop-drop (length t) m mid) ∙ ap (drop (length t)) first.rest
        ∙ drop-drop (length t) m before ∙ ap (λ (n : ℕ). drop n before) (sym second.end)

-- no text
pub puts_none : {at : ℕ} {before : List ℕ} → at ≤ length before → Puts [] at before at before
puts_none {at} {before} inside = record {
  end = omega arith;
  front = sym (append-nil (take at before));
  rest = refl;
  size = refl;
  room = inside;
  part = sym (length-take-le at before inside);
}

-- another name for the text
pub puts_as : {s t : List ℕ} {at next : ℕ} {before after : List ℕ} → s ≡ t → Puts s at before next after → Puts t at before next after
puts_as {at = at} {next} {before} {after} e puts = subst (λ (l : List ℕ). Puts l at before next after) e puts

-- a text, then a name with what it names
pub puts_named : (name text : List ℕ) {s : List ℕ} {at m next : ℕ} {before mid after : List ℕ} → Puts s at before m mid → Puts (name ++ text) m mid next after
    → Puts (s ++ name ++ text) at before next after
puts_named name text {s} first second = puts_as (sym (append_assoc s name text)) (puts_then first second)

-- ---- text behind text

pub wrote_then : {s t : List ℕ} {a b c : Text} → Wrote s a b → Wrote t b c → Wrote (s ++ t) a c
wrote_then first second = record { puts = puts_then first.puts second.puts; same = second.same ∙ first.same }

pub wrote_none : {t : Text} → HasRoom 0 t → Wrote [] t t
wrote_none room = record { puts = puts_none (omega (arith, room)); same = refl }

pub wrote_as : {s t : List ℕ} {a b : Text} → s ≡ t → Wrote s a b → Wrote t a b
wrote_as {a = a} {b} e wrote = subst (λ (l : List ℕ). Wrote l a b) e wrote

-- what was room for the text and more is room for more
pub room_then : {s : List ℕ} {a b : Text} → Wrote s a b → (m n : ℕ) → HasRoom m a → length s + n ≤ m → HasRoom n b
room_then wrote m n room fits = omega (arith, wrote.puts.end, wrote.puts.size)

pub wrote_named : (name text : List ℕ) {s : List ℕ} {a b c : Text} → Wrote s a b → Wrote (name ++ text) b c → Wrote (s ++ name ++ text) a c
wrote_named name text {s} first second = wrote_as (sym (append_assoc s name text)) (wrote_then first second)

-- ---- how long a number is

pub places_few : (k n : ℕ) → places k n ≤ suc k
unfolding places
places_few zero n = omega arith
places_few (suc k) n = go (ltb n (10 ^ suc k)) (places_few k n)
  where
    go : (t : Bool) → places k n ≤ suc k → cond t (places k n) (suc (suc k)) ≤ suc (suc k)
    go true h = omega arith
    go false h = omega arith

length_digits : (b k n : ℕ) → length (last_digits b k n) ≡ k
length_digits b zero n = refl
length_digits b (suc k) n = length-append (last_digits b k (n / b)) _ ∙ ap (λ (m : ℕ). m + 1) (length_digits b k (n / b)) ∙ add-one k

pub decimal_short : (n : ℕ) → length (decimal_of n) ≤ 10
unfolding decimal_of
decimal_short n = omega (arith, length_digits 10 (places 9 n) n, places_few 9 n)

pub length_hex : (n : ℕ) → length (hex_of n) ≡ 8
unfolding hex_of
length_hex n = length_digits 16 8 n
