-- How reading, replacing, clearing and laying out records of a list of words look on its list of records. Assumes nothing.
use Rattle.std.specs.Prelude.{ℕ, zero, suc, ◌+◌, ◌-◌, ◌*◌, ◌≤◌, ◌<◌, Bool, true, false, cond, ◌≡◌, refl, length, get_or, take, drop, set, replicate, List, [], ◌∷◌, ◌++◌, map}
use Rattle.std.proofs.Common.{arith, sym, ap, ap₂, ◌∙◌, length-append, length-drop, take-append-drop, drop-set-lt, take-add, drop-drop, take_at, drop_at, length-take-le, get_or-take, get_or-drop, get_or-append-add}
use Rattle.std.proofs.lemmas.List.{length-replicate, get_or-replicate, take-set-le, drop-set-add, append_assoc}
use Rattle.std.proofs.Math.ListN.{get_or-append}
use Rattle.std.proofs.Math.Seq.{take-set-lt, drop-append-add}
use Rattle.records.specs.Records.{Record, rows, flat, laid_out, filter}
use Rattle.records.specs.RecordsClauses.{get, put, Became, Each}

-- None but the first n records of l differ from those of `before`.
pub record Beside (n : ℕ) (before l : List ℕ) : Type 0 where
  pub held : 40 * n ≤ length before
  pub same : length l ≡ length before
  pub rest : drop (40 * n) l ≡ drop (40 * n) before

-- ---- the records after the first

get_suc : (l : List ℕ) (i : ℕ) → get l (suc i) ≡ get (drop 40 l) i
unfolding get
get_suc l i =
    let e : 40 * suc i ≡ 40 + 40 * i = omega arith in
    ap (λ (n : ℕ). take 40 (drop n l)) e ∙ ap (take 40) (sym (drop-drop (40 * i) 40 l))

put_suc : (l : List ℕ) (i : ℕ) (r : Record) → put l (suc i) r ≡ take 40 l ++ put (drop 40 l) i r
unfolding put
put_suc l i r =
    let e : 40 * suc i ≡ 40 + 40 * i = omega arith in
    let e' : 40 * suc i + 40 ≡ 40 + (40 * i + 40) = omega arith in
    ap₂ (λ (a b : List ℕ). a ++ r ++ b)
    (ap (λ (n : ℕ). take n l) e ∙ take-add 40 (40 * i) l)
    (ap (λ (n : ℕ). drop n l) e' ∙ sym (drop-drop (40 * i + 40) 40 l))
    ∙ simp append_assoc

-- ---- a record, read and replaced

pub length_rows : (n : ℕ) (l : List ℕ) → length (rows n l) ≡ n
unfolding rows
length_rows zero l = refl
length_rows (suc n) l = ap suc (length_rows n (drop 40 l))

pub get_row : (n : ℕ) (l : List ℕ) (i : ℕ) → i < n → get_or (rows n l) i [] ≡ get l i
unfolding rows get
get_row zero l i h = absurd (omega arith)
get_row (suc n) l zero h = refl
get_row (suc n) l (suc i) h = get_row n (drop 40 l) i (omega arith) ∙ sym (get_suc l i)

pub length_get : (l : List ℕ) (i : ℕ) → 40 * i + 40 ≤ length l → length (get l i) ≡ 40
unfolding get
length_get l i h = length-take-le 40 (drop (40 * i) l) (simp length-drop (omega arith))

-- a word of record i
pub get_word : (l : List ℕ) (i k : ℕ) → k < 40 → get_or (get l i) k 0 ≡ get_or l (40 * i + k) 0
unfolding get
get_word l i k h = get_or-take 40 (drop (40 * i) l) k 0 h ∙ get_or-drop (40 * i) l k 0

put_first : (n : ℕ) (l : List ℕ) (r : Record) → length r ≡ 40 → rows (suc n) (put l 0 r) ≡ r ∷ rows n (drop 40 l)
unfolding rows put
put_first n l r e = ap₂ (λ (a : Record) (b : List ℕ). a ∷ rows n b) (take_at r (drop 40 l) 40 e) (drop_at r (drop 40 l) 40 e)

put_row : (n : ℕ) (l : List ℕ) (i : ℕ) (r : Record) → i < n → 40 * n ≤ length l → length r ≡ 40 → rows n (put l i r) ≡ set (rows n l) i r
unfolding rows
put_row zero l i r h k e = absurd (omega arith)
put_row (suc n) l zero r h k e = put_first n l r e
put_row (suc n) l (suc i) r h k e =
    let first : length (take 40 l) ≡ 40 = length-take-le 40 l (omega arith) in
    let below : List ℕ = put (drop 40 l) i r in
    ap (rows (suc n)) (put_suc l i r)
    ∙ ap₂ (λ (a : Record) (b : List ℕ). a ∷ rows n b) (take_at (take 40 l) below 40 first) (drop_at (take 40 l) below 40 first)
    ∙ ap (λ (rs : List Record). take 40 l ∷ rs) (put_row n (drop 40 l) i r (omega arith) (simp length-drop (omega arith)) e)

put_rest : (n : ℕ) (l : List ℕ) (i : ℕ) (r : Record) → i < n → 40 * n ≤ length l → length r ≡ 40 → drop (40 * n) (put l i r) ≡ drop (40 * n) l
unfolding put
put_rest n l i r h k e =
    let more : ℕ = 40 * n - (40 * i + 40) in
    let front : length (take (40 * i) l ++ r) + more ≡ 40 * n = simp (length-append, length-take-le (40 * i) l (omega arith), e) (omega arith) in
    let back : 40 * i + 40 + more ≡ 40 * n = omega arith in
    ap (λ (m : ℕ). drop m (take (40 * i) l ++ r ++ drop (40 * i + 40) l)) (sym front)
    ∙ drop-append-add (take (40 * i) l ++ r) (drop (40 * i + 40) l) more
    ∙ drop-drop more (40 * i + 40) l
    ∙ ap (λ (m : ℕ). drop m l) back

-- a word of record i, replaced
pub put_word : (l : List ℕ) (i k b : ℕ) → k < 40 → set l (40 * i + k) b ≡ put l i (set (get l i) k b)
unfolding get put
put_word l i k b h =
    let n : ℕ = 40 * i in
    let l' : List ℕ = set l (n + k) b in
    let d : List ℕ = drop n l in
    let front : take n l' ≡ take n l = take-set-le n l (n + k) b (omega arith) in
    let inner : set d k b ≡ set (take 40 d) k b ++ drop (n + 40) l =
    sym (take-append-drop 40 (set d k b)) ∙ ap₂ (λ (x y : List ℕ). x ++ y) (take-set-lt 40 d k b h) (drop-set-lt 40 d k b h ∙ drop-drop 40 n l)
    in
    sym (take-append-drop n l')
    ∙ ap₂ (λ (x y : List ℕ). x ++ y) front (drop-set-add n l k b ∙ inner)
    ∙ sym (append_assoc (take n l) (set (take 40 d) k b) (drop (n + 40) l))

length_put : (l : List ℕ) (i : ℕ) (r : Record) → 40 * i + 40 ≤ length l → length r ≡ 40 → length (put l i r) ≡ length l
unfolding put
length_put l i r h e = simp (length-append, length-take-le (40 * i) l (omega arith), length-drop, e) (omega arith)

-- ---- the whole list, fewer records, and what stands beyond them

pub take_flat : (n : ℕ) (l : List ℕ) → take (40 * n) l ≡ flat (rows n l)
unfolding rows flat
take_flat zero l = refl
take_flat (suc n) l =
    let e : 40 * suc n ≡ 40 + 40 * n = omega arith in
    ap (λ (m : ℕ). take m l) e ∙ take-add 40 (40 * n) l ∙ ap (λ (t : List ℕ). take 40 l ++ t) (take_flat n (drop 40 l))

pub take_rows : (m n : ℕ) (l : List ℕ) → m ≤ n → take m (rows n l) ≡ rows m l
unfolding rows
take_rows zero n l h = refl
take_rows (suc m) zero l h = absurd (omega arith)
take_rows (suc m) (suc n) l h = ap (λ (rs : List Record). take 40 l ∷ rs) (take_rows m n (drop 40 l) (omega arith))

-- what agrees from a on agrees from b on
pub drop_later : (l m : List ℕ) (a b : ℕ) → a ≤ b → drop a l ≡ drop a m → drop b l ≡ drop b m
drop_later l m a b h e =
    let k : a + (b - a) ≡ b = omega arith in
    ap (λ (n : ℕ). drop n l) (sym k) ∙ sym (drop-drop (b - a) a l) ∙ ap (drop (b - a)) e ∙ drop-drop (b - a) a m ∙ ap (λ (n : ℕ). drop n m) k

-- the first n records are those of the first 40 * n words
pub rows_front : (n : ℕ) (l t : List ℕ) → 40 * n ≤ length l → rows n (take (40 * n) l ++ t) ≡ rows n l
unfolding rows
rows_front zero l t h = refl
rows_front (suc n) l t h =
    let e : 40 * suc n ≡ 40 + 40 * n = omega arith in
    let first : length (take 40 l) ≡ 40 = length-take-le 40 l (omega arith) in
    let later : List ℕ = take (40 * n) (drop 40 l) ++ t in
    let split : take (40 * suc n) l ++ t ≡ take 40 l ++ later =
    ap (λ (m : ℕ). take m l ++ t) e ∙ ap (λ (s : List ℕ). s ++ t) (take-add 40 (40 * n) l) ∙ append_assoc (take 40 l) (take (40 * n) (drop 40 l)) t
    in
    ap (rows (suc n)) split
    ∙ ap₂ (λ (a : Record) (b : List ℕ). a ∷ rows n b) (take_at (take 40 l) later 40 first) (drop_at (take 40 l) later 40 first)
    ∙ ap (λ (rs : List Record). take 40 l ∷ rs) (rows_front n (drop 40 l) t (simp length-drop (omega arith)))

-- ---- a step that replaces record i

pub replaced : (n : ℕ) (l : List ℕ) (i : ℕ) (r : Record) (l' : List ℕ) → l' ≡ put l i r → i < n → 40 * n ≤ length l → length r ≡ 40
    → Became n l (set (rows n l) i r) l'
replaced n l i r l' stored h k e = record {
  records = ap (rows n) stored ∙ put_row n l i r h k e;
  rest = ap (drop (40 * n)) stored ∙ put_rest n l i r h k e;
}

-- a step that exchanges records i and j
pub exchanged : (n : ℕ) (l : List ℕ) (i j : ℕ) (l' : List ℕ) → l' ≡ put (put l i (get l j)) j (get l i) → i < n → j < n → 40 * n ≤ length l
    → Became n l (set (set (rows n l) i (get_or (rows n l) j [])) j (get_or (rows n l) i [])) l'
exchanged n l i j l' stored hi hj k =
    let wide_i : 40 * i + 40 ≤ length l = omega arith in
    let wide_j : 40 * j + 40 ≤ length l = omega arith in
    let l₁ : List ℕ = put l i (get l j) in
    let first : Became n l (set (rows n l) i (get l j)) l₁ = replaced n l i (get l j) l₁ refl hi k (length_get l j wide_j) in
    let sized : length l₁ ≡ length l = length_put l i (get l j) wide_i (length_get l j wide_j) in
    let second : Became n l₁ (set (rows n l₁) j (get l i)) l' = replaced n l₁ j (get l i) l' stored hj (omega arith) (length_get l i wide_i) in
    record {
      records =
          second.records
          ∙ ap (λ (rs : List Record). set rs j (get l i)) first.records
          ∙ ap₂ (λ (a b : Record). set (set (rows n l) i a) j b) (sym (get_row n l j hj)) (sym (get_row n l i hi));
      rest = second.rest ∙ first.rest;
    }

pub beside_start : (n : ℕ) (l : List ℕ) → 40 * n ≤ length l → Beside n l l
beside_start n l h = record { held = h; same = refl; rest = refl }

pub beside_then : {n : ℕ} {before l : List ℕ} {rs : List Record} {l' : List ℕ} → Beside n before l → Became n l rs l' → length l' ≡ length l
    → Beside n before l'
beside_then so_far step sized = record { held = so_far.held; same = sized ∙ so_far.same; rest = step.rest ∙ so_far.rest }

pub beside_room : {n : ℕ} {before l : List ℕ} → Beside n before l → 40 * n ≤ length l
beside_room so_far = omega (arith, so_far.held, so_far.same)

-- ---- a fact of each record

-- a choice, by its two cases
pub either : {B : Type 0} (P : B → Type 0) (b : Bool) (u v : B) → (b ≡ true → P u) → (b ≡ false → P v) → P (cond b u v)
either P true u v f g = f refl
either P false u v f g = g refl

pub each_at : {A : Type 0} (P : A → Type 0) (d : A) (xs : List A) (i : ℕ) → Each P xs → i < length xs → P (get_or xs i d)
unfolding Each
each_at P d [] i each h = absurd (omega arith)
each_at P d (x ∷ xs) zero each h = each.0
each_at P d (x ∷ xs) (suc i) each h = each_at P d xs i each.1 (omega arith)

pub rows_whole : (n : ℕ) (l : List ℕ) → 40 * n ≤ length l → Each (λ (r : Record). length r ≡ 40) (rows n l)
unfolding rows Each
rows_whole zero l h = tt
rows_whole (suc n) l h = (length-take-le 40 l (omega arith), rows_whole n (drop 40 l) (simp length-drop (omega arith)))

pub each_both : (P Q : Record → Type 0) (rs : List Record) → Each P rs → Each Q rs → Each (λ (r : Record). P r × Q r) rs
unfolding Each
each_both P Q [] p q = tt
each_both P Q (r ∷ rs) p q = ((p.0, q.0), each_both P Q rs p.1 q.1)

pub each_weaker : (P Q : Record → Type 0) → ((r : Record) → P r → Q r) → (rs : List Record) → Each P rs → Each Q rs
unfolding Each
each_weaker P Q gives [] each = each
each_weaker P Q gives (r ∷ rs) each = (gives r each.0, each_weaker P Q gives rs each.1)

pub each_filter : (P : Record → Type 0) (p : Record → Bool) (rs : List Record) → Each P rs → Each P (filter p rs)
unfolding Each filter
each_filter P p [] each = each
each_filter P p (r ∷ rs) each = pick (p r) (each_filter P p rs each.1)
  where
    pick : (b : Bool) → Each P (filter p rs) → Each P (cond b (r ∷ filter p rs) (filter p rs))
    pick true e = (each.0, e)
    pick false e = e

pub each_map : (P Q : Record → Type 0) (f : Record → Record) → ((r : Record) → P r → Q (f r)) → (rs : List Record) → Each P rs → Each Q (map f rs)
unfolding Each
each_map P Q f gives [] each = each
each_map P Q f gives (r ∷ rs) each = (gives r each.0, each_map P Q f gives rs each.1)

-- ---- a buffer with records laid out

rows_flat : (rs : List Record) (t : List ℕ) → Each (λ (r : Record). length r ≡ 40) rs → rows (length rs) (flat rs ++ t) ≡ rs
unfolding rows flat Each
rows_flat [] t whole = refl
rows_flat (r ∷ rs) t whole =
    ap (rows (suc (length rs))) (append_assoc r (flat rs) t)
    ∙ ap₂ (λ (a : Record) (b : List ℕ). a ∷ rows (length rs) b) (take_at r (flat rs ++ t) 40 whole.0) (drop_at r (flat rs ++ t) 40 whole.0)
    ∙ ap (λ (ss : List Record). r ∷ ss) (rows_flat rs t whole.1)

length_flat : (rs : List Record) → Each (λ (r : Record). length r ≡ 40) rs → length (flat rs) ≡ 40 * length rs
unfolding flat Each
length_flat [] whole = refl
length_flat (r ∷ rs) whole = simp length-append (omega (arith, whole.0, length_flat rs whole.1))

module _ (capacity : ℕ) (rs : List Record) (before : List ℕ) (whole : Each (λ (r : Record). length r ≡ 40) rs) where
  abbrev spare : List ℕ
  spare = replicate (40 * (capacity - length rs)) 0 ++ drop (40 * capacity) before

  apart : laid_out capacity rs before ≡ flat rs ++ spare
  unfolding laid_out
  apart = append_assoc (flat rs) _ _

  -- its first records
  pub laid_record : (i : ℕ) → i < length rs → get (laid_out capacity rs before) i ≡ get_or rs i []
  laid_record i h =
      sym (get_row (length rs) (laid_out capacity rs before) i h)
      ∙ ap (λ (ss : List Record). get_or ss i []) (ap (rows (length rs)) apart ∙ rows_flat rs spare whole)

  zero_at : (n j : ℕ) → n ≡ length (flat rs) + j → j < 40 * (capacity - length rs) → get_or (laid_out capacity rs before) n 0 ≡ 0
  zero_at n j at inside =
      ap₂ (λ (l : List ℕ) (m : ℕ). get_or l m 0) apart at
      ∙ get_or-append-add (flat rs) spare j 0
      ∙ get_or-append (replicate (40 * (capacity - length rs)) 0) (drop (40 * capacity) before) 0 j (rw length-replicate inside)
      ∙ get_or-replicate (40 * (capacity - length rs)) j 0 0 inside

  -- a word of a record after them, up to the capacity
  pub laid_zero : (i k : ℕ) → length rs ≤ i → i < capacity → k < 40 → get_or (get (laid_out capacity rs before) i) k 0 ≡ 0
  laid_zero i k least most low =
      get_word (laid_out capacity rs before) i k low
      ∙ zero_at (40 * i + k) (40 * i + k - 40 * length rs) (omega (arith, length_flat rs whole)) (omega arith)
