-- Marks do not depend on the order in which bits are marked, nor on how often. Assumes nothing.
use Rattle.std.specs.Prelude.{ℕ, zero, suc, ◌+◌, ◌*◌, ◌/◌, ◌%◌, ◌^◌, ◌≤◌, ◌<◌, max, ◌≢◌, ◌≡◌, length, get_or, set}
use Rattle.std.proofs.Math.Decide.{ℕ_discrete, dec_lt}
use Rattle.std.proofs.Common.{arith, ◌∙◌, get_or-set_same, get_or-set_other, set-set, List, [], ◌∷◌, map}
use Rattle.std.proofs.Math.Path.{refl, sym, ap}
use mathlib.Core.List.{flat_map}
use Rattle.std.proofs.Math.Arith.{bin_ind, digits_div, digits_mod}
use Rattle.std.specs.Int.Bits.{bit_or, or_step, or_self}
use Rattle.std.proofs.lemmas.Nat.{or_comm}
use Rattle.std.proofs.lemmas.List.{set_comm}
use Rattle.reads.specs.Bits.{set_bit, mark, mark_all, range}
use Rattle.reads.proofs.BitsLaws.{length_mark, mark_past, mark_all_append, range_join, range_last}

-- ---- one word

pub or_assoc : (a b c : ℕ) → bit_or (bit_or a b) c ≡ bit_or a (bit_or b c)
or_assoc = bin_ind (λ (n : ℕ). (b c : ℕ) → bit_or (bit_or n b) c ≡ bit_or n (bit_or b c)) (λ b c. refl) step
  where
    half : (x y : ℕ) → bit_or x y / 2 ≡ bit_or (x / 2) (y / 2)
    half x y = ap (λ (n : ℕ). n / 2) (or_step x y) ∙ digits_div (bit_or (x / 2) (y / 2)) (omega arith)

    odd : (x y : ℕ) → bit_or x y % 2 ≡ max (x % 2) (y % 2)
    odd x y = ap (λ (n : ℕ). n % 2) (or_step x y) ∙ digits_mod (bit_or (x / 2) (y / 2)) (omega arith)

    step : (n : ℕ) → ((b c : ℕ) → bit_or (bit_or (n / 2) b) c ≡ bit_or (n / 2) (bit_or b c)) → (b c : ℕ) → bit_or (bit_or n b) c ≡ bit_or n (bit_or b c)
    step n ih b c =
        let inner : bit_or (bit_or (n / 2) (b / 2)) (c / 2) ≡ bit_or (n / 2) (bit_or (b / 2) (c / 2)) = ih (b / 2) (c / 2) in
        or_step (bit_or n b) c
        ∙ ap (λ (x : ℕ). bit_or x (c / 2) * 2 + max (bit_or n b % 2) (c % 2)) (half n b)
        ∙ ap (λ (x : ℕ). bit_or (bit_or (n / 2) (b / 2)) (c / 2) * 2 + max x (c % 2)) (odd n b)
        ∙ omega (arith, inner)
        ∙ ap (λ (x : ℕ). bit_or (n / 2) (bit_or (b / 2) (c / 2)) * 2 + max (n % 2) x) (sym (odd b c))
        ∙ ap (λ (x : ℕ). bit_or (n / 2) x * 2 + max (n % 2) (bit_or b c % 2)) (sym (half b c))
        ∙ sym (or_step n (bit_or b c))

set_bit_swap : (w a b : ℕ) → set_bit (set_bit w a) b ≡ set_bit (set_bit w b) a
unfolding set_bit
set_bit_swap w a b = or_assoc w (2 ^ a) (2 ^ b) ∙ ap (bit_or w) (or_comm (2 ^ a) (2 ^ b)) ∙ sym (or_assoc w (2 ^ b) (2 ^ a))

set_bit_again : (w a : ℕ) → set_bit (set_bit w a) a ≡ set_bit w a
unfolding set_bit
set_bit_again w a = or_assoc w (2 ^ a) (2 ^ a) ∙ ap (bit_or w) (or_self (2 ^ a))

-- ---- a list of words

-- two bits of one stored word
mark_twice : (ms : List ℕ) (q a b : ℕ) → q < length ms
    → set (set ms q (set_bit (get_or ms q 0) a)) q (set_bit (get_or (set ms q (set_bit (get_or ms q 0) a)) q 0) b) ≡ set ms q (set_bit (set_bit (get_or ms q 0) a) b)
mark_twice ms q a b h =
    let v = set_bit (get_or ms q 0) a in
    set-set ms q v _ ∙ ap (λ (w : ℕ). set ms q (set_bit w b)) (get_or-set_same ms q v 0 h)

-- a bit marked again
mark_again : (ms : List ℕ) (i : ℕ) → mark (mark ms i) i ≡ mark ms i
unfolding mark
mark_again ms i = go (dec_lt (i / 64) (length ms))
  where
    go : Dec (i / 64 < length ms) → mark (mark ms i) i ≡ mark ms i
    go (yes stored) = mark_twice ms (i / 64) (i % 64) (i % 64) stored ∙ ap (set ms (i / 64)) (set_bit_again (get_or ms (i / 64) 0) (i % 64))
    go (no past) = rw (mark_past ms i (omega arith), mark_past ms i (omega arith))

mark_swap : (ms : List ℕ) (i j : ℕ) → mark (mark ms i) j ≡ mark (mark ms j) i
unfolding mark
mark_swap ms i j = go (dec_lt (i / 64) (length ms)) (ℕ_discrete (j / 64) (i / 64))
  where
    go : Dec (i / 64 < length ms) → Dec (j / 64 ≡ i / 64) → mark (mark ms i) j ≡ mark (mark ms j) i
    go (no past) word =
        let out : length ms ≤ i / 64 = omega arith in
        ap (λ (l : List ℕ). mark l j) (mark_past ms i out) ∙ sym (mark_past (mark ms j) i (rw (length_mark ms j) out))
    go (yes stored) (yes word) =
        rw word
        (mark_twice ms (i / 64) (i % 64) (j % 64) stored
        ∙ ap (set ms (i / 64)) (set_bit_swap (get_or ms (i / 64) 0) (i % 64) (j % 64))
        ∙ sym (mark_twice ms (i / 64) (j % 64) (i % 64) stored))
    go (yes stored) (no other) =
        let back : i / 64 ≢ j / 64 = λ e. other (sym e) in
        ap (λ (w : ℕ). set (mark ms i) (j / 64) (set_bit w (j % 64))) (get_or-set_other ms (i / 64) (j / 64) _ 0 other)
        ∙ set_comm ms (i / 64) (j / 64) _ _ back
        ∙ sym (ap (λ (w : ℕ). set (mark ms j) (i / 64) (set_bit w (i % 64))) (get_or-set_other ms (j / 64) (i / 64) _ 0 back))

mark_all_mark : (ms is : List ℕ) (i : ℕ) → mark_all (mark ms i) is ≡ mark (mark_all ms is) i
unfolding mark_all
mark_all_mark ms [] i = refl
mark_all_mark ms (j ∷ is) i = ap (λ (l : List ℕ). mark_all l is) (mark_swap ms i j) ∙ mark_all_mark (mark ms j) is i

mark_all_swap : (ms is js : List ℕ) → mark_all (mark_all ms is) js ≡ mark_all (mark_all ms js) is
unfolding mark_all
mark_all_swap ms [] js = refl
mark_all_swap ms (i ∷ is) js = mark_all_swap (mark ms i) is js ∙ ap (λ (l : List ℕ). mark_all l is) (mark_all_mark ms js i)

-- ---- a range whose first bit is the last of another

pub range_again : (ms : List ℕ) (i m n : ℕ) → mark_all (mark_all ms (range i (m + 1))) (range (i + m) n) ≡ mark_all ms (range i (m + max n 1))
unfolding range mark_all
range_again ms i m zero = refl
range_again ms i m (suc n) =
    let sum : m + 1 + n ≡ m + max (suc n) 1 = omega arith in
    let next : i + m + 1 ≡ i + (m + 1) = omega arith in
    let again : mark (mark_all ms (range i (m + 1))) (i + m) ≡ mark_all ms (range i (m + 1)) =
    ap (λ (l : List ℕ). mark l (i + m)) (range_last ms i m) ∙ mark_again (mark_all ms (range i m)) (i + m) ∙ sym (range_last ms i m) in
    ap (λ (l : List ℕ). mark_all l (range (i + m + 1) n)) again ∙ ap (λ (j : ℕ). mark_all (mark_all ms (range i (m + 1))) (range j n)) next
    ∙ range_join ms i (m + 1) n ∙ ap (λ (k : ℕ). mark_all ms (range i k)) sum

-- ---- bits in columns and rows

module _ {A B : Type 0} (f : A → B → ℕ) where
  -- a column, and then what is left of each row
  column_first : (ms : List ℕ) (x : A) (rest : B → List ℕ) (ys : List B)
      → mark_all (mark_all ms (map (f x) ys)) (flat_map rest ys) ≡ mark_all ms (flat_map (λ (y : B). f x y ∷ rest y) ys)
  unfolding mark_all flat_map
  column_first ms x rest [] = refl
  column_first ms x rest (y ∷ ys) =
      let m = mark ms (f x y) in
      mark_all_append (mark_all m (map (f x) ys)) (rest y) (flat_map rest ys)
      ∙ ap (λ (l : List ℕ). mark_all l (flat_map rest ys)) (mark_all_swap m (map (f x) ys) (rest y))
      ∙ column_first (mark_all m (rest y)) x rest ys
      ∙ sym (mark_all_append m (rest y) (flat_map (λ (y : B). f x y ∷ rest y) ys))

  none_left : (ms : List ℕ) (ys : List B) → ms ≡ mark_all ms (flat_map (λ (y : B). []) ys)
  unfolding mark_all flat_map
  none_left ms [] = refl
  none_left ms (y ∷ ys) = none_left ms ys

  -- column by column or row by row
  pub transposed : (ms : List ℕ) (xs : List A) (ys : List B)
      → mark_all ms (flat_map (λ (x : A). map (f x) ys) xs) ≡ mark_all ms (flat_map (λ (y : B). map (λ (x : A). f x y) xs) ys)
  unfolding mark_all flat_map
  transposed ms [] ys = none_left ms ys
  transposed ms (x ∷ xs) ys =
      mark_all_append ms (map (f x) ys) (flat_map (λ (x : A). map (f x) ys) xs)
      ∙ transposed (mark_all ms (map (f x) ys)) xs ys
      ∙ column_first ms x (λ (y : B). map (λ (x : A). f x y) xs) ys
