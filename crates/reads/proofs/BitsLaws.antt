-- The laws of bits and marks: a stored bit is set after marking exactly when it was set before or is one of those marked. Assumes nothing.
use Rattle.std.specs.Prelude.{ℕ, zero, suc, ◌+◌, ◌/◌, ◌%◌, ◌^◌, ◌-◌, ◌≤◌, ◌<◌, Bool, true, false, not, ◌||◌, ◌⊎◌, ◌↔◌, ◌≢◌, ◌≡◌, refl, length, get_or, set, eqb}
use Rattle.std.proofs.Common.{pow-suc, suc-add, arith, inl, inr, ⊎_elim, sym, ap, ◌∙◌, length-set, get_or-set_same, get_or-set_other, pow_pos, pow-add, List, [], ◌∷◌, ◌++◌}
use Rattle.std.proofs.Math.Nat.{div-eq_of_lt, div_self, mul-mod_left, zero-div}
use Rattle.std.proofs.Math.Decide.{ℕ_discrete, dec_lt}
use Rattle.std.proofs.lemmas.Bool.{false≢true}
use mathlib.Core.List.Memᴰ
use mathlib.Core.List.{Memᴰ}
use Rattle.std.proofs.lemmas.List.{length-replicate}
use Rattle.std.proofs.Math.ListN.{get_or-eq_default}
use Rattle.std.proofs.Math.Seq.{set_out}
use Rattle.std.specs.Int.Bits.{bit_or, or_zero_r}
use Rattle.std.proofs.lemmas.Nat.{or_shr, or_mod, shl-shr}
use Rattle.std.proofs.Math.Pow.{pow-lt}
use Rattle.reads.specs.Bits.{digit, test_bit, set_bit, bit_at, mark, mark_all, zeros, range}

-- ---- one word

pub digit_low : (b : Bool) → digit b ≤ 1
digit_low true = omega arith
digit_low false = omega arith

-- a bit of a union
or_bit : (w v j : ℕ) → bit_or w v / 2 ^ j % 2 ≡ bit_or (w / 2 ^ j % 2) (v / 2 ^ j % 2)
or_bit w v j = ap (λ (n : ℕ). n % 2) (or_shr w v j) ∙ or_mod (w / 2 ^ j) (v / 2 ^ j) 1

or_digit : (d e : ℕ) → d < 2 → e < 2 → not (eqb (bit_or d e) 0) ≡ (not (eqb d 0) || not (eqb e 0))
or_digit zero zero h l = refl
or_digit zero (suc zero) h l = refl
or_digit (suc zero) zero h l = refl
or_digit (suc zero) (suc zero) h l = refl
or_digit (suc (suc d)) e h l = absurd (omega arith)
or_digit zero (suc (suc e)) h l = absurd (omega arith)
or_digit (suc zero) (suc (suc e)) h l = absurd (omega arith)

pub test_or : (w v j : ℕ) → test_bit (bit_or w v) j ≡ (test_bit w j || test_bit v j)
unfolding test_bit
test_or w v j = ap (λ (n : ℕ). not (eqb n 0)) (or_bit w v j) ∙ or_digit (w / 2 ^ j % 2) (v / 2 ^ j % 2) (omega arith) (omega arith)

-- a bit with 1 is 1
or_one : (d : ℕ) → d < 2 → bit_or d 1 ≡ 1
or_one zero h = refl
or_one (suc zero) h = refl
or_one (suc (suc d)) h = absurd (omega arith)

-- a power of two has one bit
pow_bit_same : (b : ℕ) → 2 ^ b / 2 ^ b % 2 ≡ 1
pow_bit_same b = ap (λ (n : ℕ). n % 2) (div_self (pow_pos b))

pow_bit_above : (b k : ℕ) → 2 ^ (suc k + b) / 2 ^ b % 2 ≡ 0
pow_bit_above b k =
    ap (λ (n : ℕ). n / 2 ^ b % 2) (pow-add 2 (suc k) b) ∙ ap (λ (n : ℕ). n % 2) (shl-shr (2 ^ suc k) b)
    ∙ ap (λ (n : ℕ). n % 2) (pow-suc 2 k) ∙ mul-mod_left (2 ^ k) 2

pow_bit_below : (b j : ℕ) → b < j → 2 ^ b / 2 ^ j % 2 ≡ 0
pow_bit_below b j h = ap (λ (n : ℕ). n % 2) (div-eq_of_lt (pow-lt h))

test_set_same : (w b : ℕ) → test_bit (set_bit w b) b ≡ true
unfolding test_bit set_bit
test_set_same w b =
    ap (λ (n : ℕ). not (eqb n 0))
    (or_bit w (2 ^ b) b ∙ ap (bit_or (w / 2 ^ b % 2)) (pow_bit_same b) ∙ or_one (w / 2 ^ b % 2) (omega arith))

pow_bit_other : (b j : ℕ) → j ≢ b → 2 ^ b / 2 ^ j % 2 ≡ 0
pow_bit_other b j other = go (dec_lt b j)
  where
    go : Dec (b < j) → 2 ^ b / 2 ^ j % 2 ≡ 0
    go (yes h) = pow_bit_below b j h
    go (no h) =
        let apart : suc (b - suc j) + j ≡ b = omega arith in
        ap (λ (n : ℕ). 2 ^ n / 2 ^ j % 2) (sym apart) ∙ pow_bit_above j (b - suc j)

test_set_other : (w b j : ℕ) → j ≢ b → test_bit (set_bit w b) j ≡ test_bit w j
unfolding test_bit set_bit
test_set_other w b j other =
    ap (λ (n : ℕ). not (eqb n 0))
    (or_bit w (2 ^ b) j ∙ ap (bit_or (w / 2 ^ j % 2)) (pow_bit_other b j other) ∙ or_zero_r (w / 2 ^ j % 2))

pub test_zero : (j : ℕ) → test_bit 0 j ≡ false
unfolding test_bit
test_zero j = ap (λ (n : ℕ). not (eqb (n % 2) 0)) (zero-div (2 ^ j))

-- ---- a list of words

-- past the end no bit is set
pub bit_past : (ws : List ℕ) (i : ℕ) → length ws ≤ i / 64 → bit_at ws i ≡ false
unfolding bit_at
bit_past ws i h = ap (λ (w : ℕ). test_bit w (i % 64)) (get_or-eq_default ws 0 h) ∙ test_zero (i % 64)

-- past the end a mark changes nothing
pub mark_past : (ms : List ℕ) (i : ℕ) → length ms ≤ i / 64 → mark ms i ≡ ms
unfolding mark
mark_past ms i h = set_out ms (i / 64) _ h

pub length_mark : (ms : List ℕ) (i : ℕ) → length (mark ms i) ≡ length ms
unfolding mark
length_mark ms i = length-set ms (i / 64) _

pub length_mark_all : (ms is : List ℕ) → length (mark_all ms is) ≡ length ms
unfolding mark_all
length_mark_all ms [] = refl
length_mark_all ms (i ∷ is) = length_mark_all (mark ms i) is ∙ length_mark ms i

pub mark_all_append : (ms is js : List ℕ) → mark_all ms (is ++ js) ≡ mark_all (mark_all ms is) js
unfolding mark_all
mark_all_append ms [] js = refl
mark_all_append ms (i ∷ is) js = mark_all_append (mark ms i) is js

bit_mark_same : (ms : List ℕ) (i : ℕ) → i / 64 < length ms → bit_at (mark ms i) i ≡ true
unfolding bit_at mark
bit_mark_same ms i h =
    ap (λ (w : ℕ). test_bit w (i % 64)) (get_or-set_same ms (i / 64) (set_bit (get_or ms (i / 64) 0) (i % 64)) 0 h) ∙ test_set_same (get_or ms (i / 64) 0) (i % 64)

-- a mark at i leaves bit j ≢ i as it was: j lies in another word, in another place of the same word, or past the end
bit_mark_other : (ms : List ℕ) (i j : ℕ) → j ≢ i → bit_at (mark ms i) j ≡ bit_at ms j
unfolding bit_at mark
bit_mark_other ms i j other = go (dec_lt (i / 64) (length ms)) (ℕ_discrete (j / 64) (i / 64))
  where
    v : ℕ
    v = set_bit (get_or ms (i / 64) 0) (i % 64)

    go : Dec (i / 64 < length ms) → Dec (j / 64 ≡ i / 64) → test_bit (get_or (set ms (i / 64) v) (j / 64) 0) (j % 64) ≡ test_bit (get_or ms (j / 64) 0) (j % 64)
    go (no past) word = ap (λ (l : List ℕ). test_bit (get_or l (j / 64) 0) (j % 64)) (set_out ms (i / 64) v (omega arith))
    go (yes within) (no word) = ap (λ (w : ℕ). test_bit w (j % 64)) (get_or-set_other ms (i / 64) (j / 64) v 0 word)
    go (yes within) (yes word) =
        let place : j % 64 ≢ i % 64 = λ e. other (omega arith) in
        ap (λ (q : ℕ). test_bit (get_or (set ms (i / 64) v) q 0) (j % 64)) word
        ∙ ap (λ (w : ℕ). test_bit w (j % 64)) (get_or-set_same ms (i / 64) v 0 within)
        ∙ test_set_other (get_or ms (i / 64) 0) (i % 64) (j % 64) place
        ∙ ap (λ (q : ℕ). test_bit (get_or ms q 0) (j % 64)) (sym word)

-- bit j after one mark: it was set before, or is the one marked
mark_forth : (ms : List ℕ) (i j : ℕ) → bit_at (mark ms i) j ≡ true → (bit_at ms j ≡ true) ⊎ (j ≡ i)
mark_forth ms i j b = go (ℕ_discrete j i)
  where
    go : Dec (j ≡ i) → (bit_at ms j ≡ true) ⊎ (j ≡ i)
    go (yes e) = inr e
    go (no other) = inl (sym (bit_mark_other ms i j other) ∙ b)

mark_back : (ms : List ℕ) (i j : ℕ) → j / 64 < length ms → (bit_at ms j ≡ true) ⊎ (j ≡ i) → bit_at (mark ms i) j ≡ true
mark_back ms i j h s = go (ℕ_discrete j i)
  where
    go : Dec (j ≡ i) → bit_at (mark ms i) j ≡ true
    go (yes e) = ap (λ (n : ℕ). bit_at (mark ms n) j) (sym e) ∙ bit_mark_same ms j h
    go (no other) = ⊎_elim (λ b. bit_mark_other ms i j other ∙ b) (λ e. absurd (other e)) s

-- a stored bit is set after the marks exactly when it was set before or is one of them
marked_forth : (ms is : List ℕ) (j : ℕ) → bit_at (mark_all ms is) j ≡ true → (bit_at ms j ≡ true) ⊎ Memᴰ j is
unfolding mark_all
marked_forth ms [] j b = inl b
marked_forth ms (i ∷ is) j b =
    ⊎_elim
    (λ e. ⊎_elim inl (λ same. inr (Memᴰ.head same)) (mark_forth ms i j e))
    (λ m. inr (Memᴰ.tail m))
    (marked_forth (mark ms i) is j b)

marked_back : (ms is : List ℕ) (j : ℕ) → j / 64 < length ms → (bit_at ms j ≡ true) ⊎ Memᴰ j is → bit_at (mark_all ms is) j ≡ true
unfolding mark_all
marked_back ms [] j h s = ⊎_elim (λ b. b) (λ m. absurd (Memᴰ.not-nil m)) s
marked_back ms (i ∷ is) j h s =
    marked_back (mark ms i) is j (rw length_mark h)
    (⊎_elim
    (λ b. inl (mark_back ms i j h (inl b)))
    (λ m. ⊎_elim (λ e. inl (mark_back ms i j h (inr e))) inr (Memᴰ.cases_cons m))
    s)

-- ---- all clear

pub get_or_zeros : (n i : ℕ) → get_or (zeros n) i 0 ≡ 0
get_or_zeros zero i = refl
get_or_zeros (suc n) zero = refl
get_or_zeros (suc n) (suc i) = get_or_zeros n i

bit_zeros : (n j : ℕ) → bit_at (zeros n) j ≡ false
unfolding bit_at
bit_zeros n j = ap (λ (w : ℕ). test_bit w (j % 64)) (get_or_zeros n (j / 64)) ∙ test_zero (j % 64)

-- from clear words, a stored bit is set exactly when it is one of those marked
pub marked_exactly : (n : ℕ) (is : List ℕ) (j : ℕ) → j / 64 < n → (bit_at (mark_all (zeros n) is) j ≡ true) ↔ Memᴰ j is
marked_exactly n is j h = (
  λ b. ⊎_elim (λ e. absurd (false≢true (sym (bit_zeros n j) ∙ e))) (λ m. m) (marked_forth (zeros n) is j b),
  λ m. marked_back (zeros n) is j (rw length-replicate h) (inr m),
)

-- ---- ranges

pub length_range : (i n : ℕ) → length (range i n) ≡ n
unfolding range
length_range i zero = refl
length_range i (suc n) = ap suc (length_range (i + 1) n)

-- a range in two parts
pub range_split : (i m n : ℕ) → range i (m + n) ≡ range i m ++ range (i + m) n
unfolding range
range_split i zero n =
    let none : 0 + n ≡ n = omega arith in
    let here : i + 0 ≡ i = omega arith in
    rw (none, here)
range_split i (suc m) n =
    let next : i + 1 + m ≡ i + suc m = omega arith in
    rw (suc-add m n) (ap (λ (l : List ℕ). i ∷ l) (range_split (i + 1) m n ∙ ap (λ (j : ℕ). range (i + 1) m ++ range j n) next))

-- the numbers of a range, and no others
pub in_range : (j i n : ℕ) → Memᴰ j (range i n) ↔ ((i ≤ j) × (j < i + n))
unfolding range
in_range j i zero = (λ m. absurd (Memᴰ.not-nil m), λ h. absurd (omega (arith, h.0, h.1)))
in_range j i (suc n) = (λ m. forth (in_range j (i + 1) n).0 (Memᴰ.cases_cons m), λ h. back (in_range j (i + 1) n).1 h.0 h.1 (dec_lt i j))
  where
    forth : (Memᴰ j (range (i + 1) n) → (i + 1 ≤ j) × (j < i + 1 + n)) → (j ≡ i) ⊎ Memᴰ j (range (i + 1) n) → (i ≤ j) × (j < i + suc n)
    forth later (inl e) = omega arith
    forth later (inr m) = omega (arith, later m)

    back : ((i + 1 ≤ j) × (j < i + 1 + n) → Memᴰ j (range (i + 1) n)) → i ≤ j → j < i + suc n → Dec (i < j) → Memᴰ j (i ∷ range (i + 1) n)
    back later low high (yes h) = Memᴰ.tail (later (omega arith, omega arith))
    back later low high (no h) =
        let same : j ≡ i = omega arith in
        Memᴰ.head same

-- a range marked after the one before it
pub range_join : (ms : List ℕ) (i m n : ℕ) → mark_all (mark_all ms (range i m)) (range (i + m) n) ≡ mark_all ms (range i (m + n))
range_join ms i m n = sym (ap (mark_all ms) (range_split i m n) ∙ mark_all_append ms (range i m) (range (i + m) n))

-- one bit more
pub range_last : (ms : List ℕ) (i n : ℕ) → mark_all ms (range i (n + 1)) ≡ mark (mark_all ms (range i n)) (i + n)
unfolding range mark_all
range_last ms i n = sym (range_join ms i n 1)
