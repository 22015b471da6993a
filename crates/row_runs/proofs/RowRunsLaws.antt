-- The colour runs of columns are their pixels (`runs_are`): none is empty, their colours take turns, and joined they give the columns with their colours, in
-- order; no other list is so (`runs_unique`). Those of a row are its pixels from the first black one at or after the start on (`row_runs_are`).
-- Assumes nothing.
use Rattle.std.proofs.Common.{ℕ, zero, suc, ◌+◌, ◌-◌, ◌≤◌, ◌<◌, arith, Bool, true, false, ◌≡◌, get_or, drop, sym, ◌∙◌, List, [], ◌∷◌, ◌++◌, map, append_assoc}
use Rattle.std.proofs.Math.Decide.{dec_lt}
use Rattle.std.proofs.Math.Bool.{not, cond, not-not}
use Rattle.std.specs.Bool.{beq}
use Rattle.std.proofs.lemmas.Bool.{false≢true}
use Rattle.std.proofs.Math.Path.{refl, ap, ap₂}
use Rattle.std.proofs.lemmas.List.{map-append}
use Rattle.std.proofs.Math.ListN.{length}
use Rattle.reads.specs.Bits.{range}
use Rattle.reads.proofs.BitsLaws.{range_split}
use Rattle.bit_runs.specs.BitRuns.{FirstBlack}
use Rattle.row_runs.specs.RowRuns.{ColourRun, put_before, one_column, colour_runs, columns, from_first_black, runs_from_black, run_at}

-- ---- a run before others

cond_equal : {A : Type 0} (a b : Bool) (x y : A) → a ≡ b → cond (beq a b) x y ≡ x
cond_equal true true x y e = refl
cond_equal true false x y e = absurd (false≢true (sym e))
cond_equal false true x y e = absurd (false≢true e)
cond_equal false false x y e = refl

cond_other : {A : Type 0} (a b : Bool) (x y : A) → a ≡ not b → cond (beq a b) x y ≡ y
cond_other true true x y e = absurd (false≢true (sym e))
cond_other true false x y e = refl
cond_other false true x y e = refl
cond_other false false x y e = absurd (false≢true e)

-- two colours are equal or opposite
pub by_colour : (P : Bool → Type 0) (a b : Bool) → (b ≡ a → P b) → (b ≡ not a → P b) → P b
by_colour P true true same other = same refl
by_colour P true false same other = other refl
by_colour P false true same other = other refl
by_colour P false false same other = same refl

-- two runs as one
abbrev pub merged : ColourRun → ColourRun → ColourRun
merged r s = record { colour = r.colour; first = r.first; length = r.length + s.length }

put_equal : (r s : ColourRun) (rs : List ColourRun) → r.colour ≡ s.colour → put_before r (s ∷ rs) ≡ merged r s ∷ rs
unfolding put_before
put_equal r s rs e = cond_equal r.colour s.colour _ _ e

put_apart : (r s : ColourRun) (rs : List ColourRun) → r.colour ≡ not s.colour → put_before r (s ∷ rs) ≡ r ∷ s ∷ rs
unfolding put_before
put_apart r s rs e = cond_other r.colour s.colour _ _ e

-- what holds of a run before others, in either way
put_cases : (P : List ColourRun → Type 0) (r s : ColourRun) (rs : List ColourRun)
    → (r.colour ≡ s.colour → P (merged r s ∷ rs)) → (r.colour ≡ not s.colour → P (r ∷ s ∷ rs)) → P (put_before r (s ∷ rs))
put_cases P r s rs same other =
    by_colour (λ c. r.colour ≡ c → P (put_before r (s ∷ rs))) s.colour r.colour
    (λ e _. rw (put_equal r s rs e) (same e)) (λ e _. rw (put_apart r s rs e) (other e)) refl

-- one run more of the same colour
pub put_same : (r s : ColourRun) (rs : List ColourRun) → r.colour ≡ s.colour → put_before r (put_before s rs) ≡ put_before (merged r s) rs
unfolding put_before
put_same r s [] e = put_equal r s [] e
put_same r s (t ∷ rs) e =
    put_cases (λ l. put_before r l ≡ put_before (merged r s) (t ∷ rs)) s t rs
    (λ same.
    let sum : r.length + (s.length + t.length) ≡ r.length + s.length + t.length = omega arith in
    put_equal r (merged s t) rs e
    ∙ ap (λ (n : ℕ). record { colour = r.colour; first = r.first; length = n } ∷ rs) sum
    ∙ sym (put_equal (merged r s) t rs (e ∙ same)))
    (λ other. put_equal r s (t ∷ rs) e ∙ sym (put_apart (merged r s) t rs (e ∙ other)))

-- one of the other colour
pub put_other : (r s : ColourRun) (rs : List ColourRun) → r.colour ≡ not s.colour → put_before r (put_before s rs) ≡ r ∷ put_before s rs
unfolding put_before
put_other r s [] e = put_apart r s [] e
put_other r s (t ∷ rs) e =
    put_cases (λ l. put_before r l ≡ r ∷ l) s t rs (λ same. put_apart r (merged s t) rs e) (λ other. put_apart r s (t ∷ rs) e)

-- runs begin with a run of this colour, at this column
pub record Begins (r : ColourRun) (rs : List ColourRun) : Type 0 where
  pub head : ColourRun
  pub others : List ColourRun
  pub is : rs ≡ head ∷ others
  pub colour : head.colour ≡ r.colour
  pub first : head.first ≡ r.first

pub put_begins : (r : ColourRun) (rs : List ColourRun) → Begins r (put_before r rs)
unfolding put_before
put_begins r [] = record { head = r; others = []; is = refl; colour = refl; first = refl }
put_begins r (s ∷ rs) =
    put_cases (Begins r) r s rs
    (λ _. record { head = merged r s; others = rs; is = refl; colour = refl; first = refl })
    (λ _. record { head = r; others = s ∷ rs; is = refl; colour = refl; first = refl })

-- what holds of runs holds of those after the first, once one is put before them
pub put_later : (P : ColourRun → Type 0) (r : ColourRun) (rs : List ColourRun) → ((k : ℕ) → k < length rs → P (run_at rs k))
    → (k : ℕ) → suc k < length (put_before r rs) → P (run_at (put_before r rs) (suc k))
unfolding put_before
put_later P r [] each k h = absurd (omega arith)
put_later P r (s ∷ rs) each k h =
    put_cases (λ l. (j : ℕ) → suc j < length l → P (run_at l (suc j))) r s rs
    (λ _ j low. each (suc j) low) (λ _ j low. each j (omega arith)) k h

-- ---- none is empty, and their colours take turns

put_some : (r : ColourRun) (rs : List ColourRun) → 0 < r.length → ((k : ℕ) → k < length rs → 0 < (run_at rs k).length)
    → (k : ℕ) → k < length (put_before r rs) → 0 < (run_at (put_before r rs) k).length
unfolding put_before
put_some r [] some each zero h = some
put_some r [] some each (suc k) h = absurd (omega arith)
put_some r (s ∷ rs) some each k h =
    put_cases (λ l. (j : ℕ) → j < length l → 0 < (run_at l j).length) r s rs (λ _. of_merged) (λ _. of_both) k h
  where
    of_merged : (j : ℕ) → j < length (merged r s ∷ rs) → 0 < (run_at (merged r s ∷ rs) j).length
    of_merged zero low = omega arith
    of_merged (suc j) low = each (suc j) low

    of_both : (j : ℕ) → j < length (r ∷ s ∷ rs) → 0 < (run_at (r ∷ s ∷ rs) j).length
    of_both zero low = some
    of_both (suc j) low = each j (omega arith)

-- the next run has the other colour
abbrev pub TakeTurns : List ColourRun → Type 0
TakeTurns rs = (k : ℕ) → suc k < length rs → (run_at rs (suc k)).colour ≡ not (run_at rs k).colour

put_turns : (r : ColourRun) (rs : List ColourRun) → TakeTurns rs → TakeTurns (put_before r rs)
unfolding put_before
put_turns r [] turns k h = absurd (omega arith)
put_turns r (s ∷ rs) turns k h = put_cases TakeTurns r s rs of_merged of_both k h
  where
    of_merged : r.colour ≡ s.colour → TakeTurns (merged r s ∷ rs)
    of_merged e zero low = turns 0 low ∙ ap not (sym e)
    of_merged e (suc j) low = turns (suc j) low

    of_both : r.colour ≡ not s.colour → TakeTurns (r ∷ s ∷ rs)
    of_both e zero low = sym (ap not e ∙ not-not s.colour)
    of_both e (suc j) low = turns j (omega arith)

-- ---- they are the pixels

-- columns with their colours
abbrev pub pixels : (ℕ → Bool) → List ℕ → List (ℕ × Bool)
pixels black xs = map (λ x. (x, black x)) xs

-- the pixels of runs, one run after the other
unfoldable pub joined_runs : List ColourRun → List (ℕ × Bool)
joined_runs [] = []
joined_runs (r ∷ rs) = pixels (λ _. r.colour) (range r.first r.length) ++ joined_runs rs

-- of two runs that follow each other
joined_merged : (r s : ColourRun) (rs : List ColourRun) → r.colour ≡ s.colour → s.first ≡ r.first + r.length
    → joined_runs (merged r s ∷ rs) ≡ joined_runs (r ∷ s ∷ rs)
unfolding joined_runs
joined_merged r s rs e next =
    let of : ℕ → ℕ → List (ℕ × Bool) = λ x n. pixels (λ _. r.colour) (range x n) in
    let split : of r.first (r.length + s.length) ≡ of r.first r.length ++ of (r.first + r.length) s.length =
    ap (map _) (range_split r.first r.length s.length) ∙ map-append _ (range r.first r.length) (range (r.first + r.length) s.length) in
    let there : of (r.first + r.length) s.length ≡ pixels (λ _. s.colour) (range s.first s.length) =
    ap₂ (λ (c : Bool) (x : ℕ). pixels (λ _. c) (range x s.length)) e (sym next) in
    ap (λ (l : List (ℕ × Bool)). l ++ joined_runs rs) (split ∙ ap (λ (l : List (ℕ × Bool)). of r.first r.length ++ l) there)
    ∙ append_assoc (of r.first r.length) (pixels (λ _. s.colour) (range s.first s.length)) (joined_runs rs)

-- of a run before others that follow it
joined_put : (r : ColourRun) (rs : List ColourRun) → (0 < length rs → (run_at rs 0).first ≡ r.first + r.length)
    → joined_runs (put_before r rs) ≡ joined_runs (r ∷ rs)
unfolding put_before
joined_put r [] next = refl
joined_put r (s ∷ rs) next =
    put_cases (λ l. joined_runs l ≡ joined_runs (r ∷ s ∷ rs)) r s rs (λ e. joined_merged r s rs e (next (omega arith))) (λ _. refl)

-- Runs of columns: none is empty, colours take turns, and joined they are the columns with their colours.
pub record AreRuns (black : ℕ → Bool) (xs : List ℕ) (rs : List ColourRun) : Type 0 where
  pub some : (k : ℕ) → k < length rs → 0 < (run_at rs k).length
  pub turns : TakeTurns rs
  pub pixels_joined : joined_runs rs ≡ pixels black xs

module _ (black : ℕ → Bool) where
  -- the first run begins with the first column
  pub first_column_lem : (x n : ℕ) → 0 < length (colour_runs black (range x n)) → (run_at (colour_runs black (range x n)) 0).first ≡ x
  unfolding range colour_runs
  first_column_lem x zero h = absurd (omega arith)
  first_column_lem x (suc n) h =
      let begins = put_begins (one_column black x) (colour_runs black (range (x + 1) n)) in
      ap (λ (l : List ColourRun). (run_at l 0).first) begins.is ∙ begins.first

  runs_some : (xs : List ℕ) (k : ℕ) → k < length (colour_runs black xs) → 0 < (run_at (colour_runs black xs) k).length
  unfolding colour_runs
  runs_some [] k h = absurd (omega arith)
  runs_some (x ∷ xs) k h = put_some (one_column black x) (colour_runs black xs) (omega arith) (runs_some xs) k h

  runs_turn : (xs : List ℕ) → TakeTurns (colour_runs black xs)
  unfolding colour_runs
  runs_turn [] k h = absurd (omega arith)
  runs_turn (x ∷ xs) k h = put_turns (one_column black x) (colour_runs black xs) (runs_turn xs) k h

  runs_joined : (x n : ℕ) → joined_runs (colour_runs black (range x n)) ≡ pixels black (range x n)
  unfolding range colour_runs joined_runs
  runs_joined x zero = refl
  runs_joined x (suc n) =
      joined_put (one_column black x) (colour_runs black (range (x + 1) n)) (first_column_lem (x + 1) n)
      ∙ ap (λ (l : List (ℕ × Bool)). (x, black x) ∷ l) (runs_joined (x + 1) n)

  -- `colour_runs` of columns that follow each other is such a list
  pub runs_are : (x n : ℕ) → AreRuns black (range x n) (colour_runs black (range x n))
  runs_are x n = record { some = runs_some (range x n); turns = runs_turn (range x n); pixels_joined = runs_joined x n }

  -- ---- and no others are

  put_alone : (r : ColourRun) (rs : List ColourRun) → (0 < length rs → (run_at rs 0).colour ≡ not r.colour) → put_before r rs ≡ r ∷ rs
  unfolding put_before
  put_alone r [] other = refl
  put_alone r (s ∷ rs) other = put_apart r s rs (sym (ap not (other (omega arith)) ∙ not-not r.colour))

  its_column : {c : Bool} {x y : ℕ} {l m : List (ℕ × Bool)} → (y, c) ∷ l ≡ (x, black x) ∷ m → one_column black x ≡ record { colour = c; first = y; length = 1 }
  its_column {c} {x} {y} e =
      ap₂ (λ (b : Bool) (z : ℕ). record { colour = b; first = z; length = 1 })
      (sym (ap (λ (l : List (ℕ × Bool)). (get_or l 0 (y, c)).1) e)) (sym (ap (λ (l : List (ℕ × Bool)). (get_or l 0 (y, c)).0) e))

  only_run : (m : ℕ) (c : Bool) (y : ℕ) (rs : List ColourRun) → ((xs : List ℕ) → joined_runs rs ≡ pixels black xs → colour_runs black xs ≡ rs)
      → (0 < length rs → (run_at rs 0).colour ≡ not c)
      → (xs : List ℕ) → joined_runs (record { colour = c; first = y; length = suc m } ∷ rs) ≡ pixels black xs
      → colour_runs black xs ≡ record { colour = c; first = y; length = suc m } ∷ rs
  unfolding joined_runs colour_runs range
  only_run m c y rs later other [] e = absurd (omega (arith, ap length e))
  only_run zero c y rs later other (x ∷ xs) e =
      ap₂ put_before (its_column e) (later xs (ap (drop 1) e)) ∙ put_alone _ rs other
  only_run (suc m) c y rs later other (x ∷ xs) e =
      let sum : 1 + suc m ≡ suc (suc m) = omega arith in
      ap₂ put_before (its_column e) (only_run m c (y + 1) rs later other xs (ap (drop 1) e))
      ∙ put_equal _ _ rs refl
      ∙ ap (λ (n : ℕ). record { colour = c; first = y; length = n } ∷ rs) sum

  runs_only : (rs : List ColourRun) (xs : List ℕ) → ((k : ℕ) → k < length rs → 0 < (run_at rs k).length) → TakeTurns rs → joined_runs rs ≡ pixels black xs
      → colour_runs black xs ≡ rs
  unfolding joined_runs colour_runs
  runs_only [] [] some turns e = refl
  runs_only [] (x ∷ xs) some turns e = absurd (omega (arith, ap length e))
  runs_only (r ∷ rs) xs some turns e =
      go r.length refl (λ ys same. runs_only rs ys (λ k h. some (suc k) (omega arith)) (λ k h. turns (suc k) (omega arith)) same)
    where
      go : (n : ℕ) → r.length ≡ n → ((ys : List ℕ) → joined_runs rs ≡ pixels black ys → colour_runs black ys ≡ rs) → colour_runs black xs ≡ r ∷ rs
      go zero none later = absurd (omega (arith, some 0 (omega arith)))
      go (suc m) long later =
          let whole : r ≡ record { colour = r.colour; first = r.first; length = suc m } =
          ap (λ (n : ℕ). record { colour = r.colour; first = r.first; length = n }) long in
          only_run m r.colour r.first rs later (λ h. turns 0 (omega arith)) xs (ap (λ (t : ColourRun). joined_runs (t ∷ rs)) (sym whole) ∙ e)
          ∙ ap (λ (t : ColourRun). t ∷ rs) (sym whole)

  -- and the only one
  pub runs_unique : (xs : List ℕ) (rs : List ColourRun) → AreRuns black xs rs → rs ≡ colour_runs black xs
  runs_unique xs rs are = sym (runs_only rs xs are.some are.turns are.pixels_joined)

  -- ---- from the first black pixel on

  pub past_white : (n x : ℕ) (ys : List ℕ) → ((y : ℕ) → x ≤ y → y < x + n → black y ≡ false) → from_first_black black (range x n ++ ys) ≡ from_first_black black ys
  unfolding from_first_black range
  past_white zero x ys white = refl
  past_white (suc n) x ys white =
      ap (λ (t : Bool). cond t (x ∷ range (x + 1) n ++ ys) (from_first_black black (range (x + 1) n ++ ys))) (white x (omega arith) (omega arith))
      ∙ past_white n (x + 1) ys (λ y low high. white y (omega arith) (omega arith))

  at_black : (n x : ℕ) → (0 < n → black x ≡ true) → from_first_black black (range x n) ≡ range x n
  unfolding from_first_black range
  at_black zero x is_black = refl
  at_black (suc n) x is_black = ap (λ (t : Bool). cond t (x ∷ range (x + 1) n) (from_first_black black (range (x + 1) n))) (is_black (omega arith))

  pub from_first_black_lem : {start end first : ℕ} → FirstBlack black start end first → from_first_black black (columns start end) ≡ columns first end
  from_first_black_lem {start} {end} {first} ends =
      let parts : end - start ≡ first - start + (end - first) = omega (arith, ends.after, ends.within) in
      let there : start + (first - start) ≡ first = omega (arith, ends.after) in
      ap (λ (n : ℕ). from_first_black black (range start n)) parts
      ∙ ap (from_first_black black) (range_split start (first - start) (end - first))
      ∙ past_white (first - start) start (range (start + (first - start)) (end - first)) (λ y low high. ends.white y low (omega (arith, there)))
      ∙ ap (λ (x : ℕ). from_first_black black (range x (end - first))) there
      ∙ at_black (end - first) first (λ some. ends.black (omega arith))

  -- no column left; a black one; and a white one before others
  pub none_left : (x : ℕ) → FirstBlack black x (x + 0) x
  none_left x =
      record { after = omega arith; within = omega arith; white = λ k low high. absurd (omega arith); black = λ low. absurd (omega arith) }

  pub black_here : (n x : ℕ) → black x ≡ true → FirstBlack black x (x + suc n) x
  black_here n x e = record { after = omega arith; within = omega arith; white = λ k low high. absurd (omega arith); black = λ low. e }

  pub white_here : (n x : ℕ) {first : ℕ} → black x ≡ false → FirstBlack black (x + 1) (x + 1 + n) first → FirstBlack black x (x + suc n) first
  white_here n x {first} e ends = record {
    after = omega (arith, ends.after);
    within = omega (arith, ends.within);
    white = λ k low high. white k low high (dec_lt x k);
    black = λ low. ends.black (omega arith);
  }
    where
      white : (k : ℕ) → x ≤ k → k < first → Dec (x < k) → black k ≡ false
      white k low high (yes later) = ends.white k (omega arith) high
      white k low high (no here) =
          let same : k ≡ x = omega arith in
          ap black same ∙ e

  -- there is a first black column, or none up to the end
  pub a_first_black : (n x : ℕ) → (first : ℕ) × FirstBlack black x (x + n) first
  a_first_black zero x = (x, none_left x)
  a_first_black (suc n) x = go (black x) refl (a_first_black n (x + 1))
    where
      go : (b : Bool) → black x ≡ b → (first : ℕ) × FirstBlack black (x + 1) (x + 1 + n) first → (first : ℕ) × FirstBlack black x (x + suc n) first
      go true e later = (x, black_here n x e)
      go false e (first, ends) = (first, white_here n x e ends)

  -- The runs of a row are those of its columns from the first black one at or after the start on.
  pub row_runs_are : (start width : ℕ) → start ≤ width
      → (first : ℕ) × FirstBlack black start width first × AreRuns black (columns first width) (runs_from_black black start width)
  row_runs_are start width low =
      let reach : start + (width - start) ≡ width = omega arith in
      let found = a_first_black (width - start) start in
      let ends : FirstBlack black start width found.0 = rw reach at found.1 in
      (found.0, ends, rw (from_first_black_lem ends) (runs_are found.0 (width - found.0)))
