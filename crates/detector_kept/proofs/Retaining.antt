-- The test and the loop of `retain_near`. Assumes nothing.
use Rattle.std.proofs.Common.{ℕ, ◌+◌, ◌*◌, ◌≤◌, ◌<◌, add-zero, add-one, arith, Bool, true, false, cond, ◌≡◌, refl, sym, ap, ◌∙◌, List, [], ◌∷◌, ◌++◌, append-nil, length, get_or, take, drop, set, take-suc, take-suc-set, drop-set-lt, get_or-drop, drop-drop, take_all, length-take-le}
use Rattle.records.specs.Records.{Record, rows, filter}
use Rattle.records.specs.RecordsClauses.{get, put, Became}
use Rattle.records.specs.RecordsLaws.{Beside, length_rows, get_row, length_get, take_rows, replaced, beside_start, beside_then, beside_room}
use Rattle.detector_kept.specs.Retain.{near, retain}
use Rattle.detector_kept.specs.KeptClauses.{Retained}
use Rattle.detector_kept.specs.declared.Spread.{Spread}

-- ---- a filter of one element more

module _ {A : Type 0} (p : A → Bool) where
  filter_append : (xs ys : List A) → filter p (xs ++ ys) ≡ filter p xs ++ filter p ys
  unfolding filter
  filter_append [] ys = refl
  filter_append (x ∷ xs) ys = ap (λ (l : List A). cond (p x) (x ∷ l) l) (filter_append xs ys) ∙ moved (p x) (filter p xs)
    where
      moved : (b : Bool) (l : List A) → cond b (x ∷ (l ++ filter p ys)) (l ++ filter p ys) ≡ cond b (x ∷ l) l ++ filter p ys
      moved true l = refl
      moved false l = refl

  module _ (xs : List A) (i : ℕ) (x d : A) (h : i < length xs) (at : x ≡ get_or xs i d) where
    pub filter_more : p x ≡ true → filter p (take i xs) ++ (x ∷ []) ≡ filter p (take (i + 1) xs)
    unfolding filter
    filter_more e =
        sym (rw (add-one, take-suc xs i d h, filter_append (take i xs) (get_or xs i d ∷ []), ← at, e))

    pub filter_same : p x ≡ false → filter p (take i xs) ≡ filter p (take (i + 1) xs)
    unfolding filter
    filter_same e =
        sym (rw (add-one, take-suc xs i d h, filter_append (take i xs) (get_or xs i d ∷ []), ← at, e) (append-nil (filter p (take i xs))))

-- ---- the loop, after i records

pub record Retaining (found : ℕ) (s : Spread) (l₀ l : List ℕ) (kept i : ℕ) : Type 0 where
  pub few : i ≤ found
  pub fewer : kept ≤ i
  pub beside : Beside found l₀ l
  pub front : take kept (rows found l) ≡ retain s (take i (rows found l₀))
  pub back : drop i (rows found l) ≡ drop i (rows found l₀)

pub begins : {found : ℕ} {s : Spread} {l : List ℕ} → 40 * found ≤ length l → Retaining found s l l 0 0
unfolding filter
begins {found} {l = l} h = record { few = omega arith; fewer = omega arith; beside = beside_start found l h; front = refl; back = refl }

drop_more : {A : Type 0} (xs : List A) (i : ℕ) → drop (i + 1) xs ≡ drop 1 (drop i xs)
drop_more xs i = sym (drop-drop 1 i xs)

module _ {found : ℕ} {s : Spread} {l₀ l : List ℕ} {kept i : ℕ} (so_far : Retaining found s l₀ l kept i) where
  module _ (h : i < found) where
    abbrev r : Record
    r = get l i

    -- record i is still the one that it was
    unmoved : r ≡ get_or (rows found l₀) i []
    unmoved =
        sym (get_row found l i h)
        ∙ ap (λ (k : ℕ). get_or (rows found l) k []) (sym (add-zero i))
        ∙ sym (get_or-drop i (rows found l) 0 [])
        ∙ ap (λ (rs : List Record). get_or rs 0 []) so_far.back
        ∙ get_or-drop i (rows found l₀) 0 []
        ∙ ap (λ (k : ℕ). get_or (rows found l₀) k []) (add-zero i)

    whole : length r ≡ 40
    whole = length_get l i (omega (arith, beside_room so_far.beside))

    inside : i < length (rows found l₀)
    inside = omega (arith, length_rows found l₀)

    near_here : (rs : List Record) → rs ≡ rows found l → near s (get_or rs i []) ≡ near s r
    near_here rs are = ap (λ (xs : List Record). near s (get_or xs i [])) are ∙ ap (near s) (get_row found l i h)

    pub retained_passed : (rs : List Record) → rs ≡ rows found l → near s (get_or rs i []) ≡ false → Retaining found s l₀ l kept (i + 1)
    retained_passed rs are e = record {
      few = omega arith;
      fewer = omega (arith, so_far.fewer);
      beside = so_far.beside;
      front = so_far.front ∙ filter_same (near s) (rows found l₀) i r [] inside unmoved (sym (near_here rs are) ∙ e);
      back = drop_more (rows found l) i ∙ ap (drop 1) so_far.back ∙ sym (drop_more (rows found l₀) i);
    }

    pub taken : (rs : List Record) → rs ≡ rows found l → near s (get_or rs i []) ≡ true → (l' : List ℕ) → l' ≡ put l kept r → length l' ≡ length l
        → Retaining found s l₀ l' (kept + 1) (i + 1)
    taken rs are e l' stored sized = record {
      few = omega arith;
      fewer = omega (arith, so_far.fewer);
      beside = beside_then so_far.beside now sized;
      front =
          ap (take (kept + 1)) now.records
          ∙ ap (λ (k : ℕ). take k (set (rows found l) kept r)) (add-one kept)
          ∙ take-suc-set (rows found l) kept r (omega (arith, length_rows found l, so_far.fewer))
          ∙ ap (λ (rs : List Record). rs ++ (r ∷ [])) so_far.front
          ∙ filter_more (near s) (rows found l₀) i r [] inside unmoved (sym (near_here rs are) ∙ e);
      back =
          ap (drop (i + 1)) now.records
          ∙ drop-set-lt (i + 1) (rows found l) kept r (omega (arith, so_far.fewer))
          ∙ drop_more (rows found l) i ∙ ap (drop 1) so_far.back ∙ sym (drop_more (rows found l₀) i);
    }
      where
        now : Became found l (set (rows found l) kept r) l'
        now = replaced found l kept r l' stored (omega (arith, so_far.fewer)) (beside_room so_far.beside) whole

  pub over : found ≤ i → Retained found s l₀ kept l
  over h = record {
    counted = sym (length-take-le kept (rows found l) (omega (arith, length_rows found l, so_far.fewer, so_far.few))) ∙ ap length all;
    few = omega (arith, so_far.fewer, so_far.few);
    records = sym (take_rows kept found l (omega (arith, so_far.fewer, so_far.few))) ∙ all;
    rest = so_far.beside.rest;
  }
    where
      all : take kept (rows found l) ≡ retain s (rows found l₀)
      all = so_far.front ∙ ap (retain s) (take_all i (rows found l₀) (omega (arith, length_rows found l₀)))
