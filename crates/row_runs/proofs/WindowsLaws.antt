-- What a window is (`window_is`), that a run with which none begins can be dropped (`first_dropped`), and what an answer tells. Assumes nothing.
use Rattle.std.proofs.Common.{ℕ, zero, suc, ◌+◌, ◌≤◌, ◌<◌, true, false, ◌↔◌, ◌≡◌, refl, List, [], ◌∷◌, ◌++◌, length, take, drop, Option, Some, None, arith, sym, ap, ◌∙◌, length-append, length-drop, take_at, get_or-drop}
use Rattle.std.proofs.Math.Decide.{dec_lt}
use Rattle.std.proofs.lemmas.List.{get_or_at}
use Rattle.detector_widths.specs.Widths.{valid_widths}
use Rattle.detector_window.specs.declared.Bullseye.{Bullseye}
use Rattle.row_runs.specs.RowRuns.{ColourRun, run_at, lengths, Opens, Window, Leftmost, eye_at, RowAnswer, nowhere, leftmost}

-- ---- what a window is

-- Eleven runs are a window, by the run after them: the first is black, the eleven pass the width test, and the next is white and begins below the limit.
pub record Eleven (limit : ℕ) (r : ColourRun) (ten : List ColourRun) (next : ColourRun) : Type 0 where
  pub black : r.colour ≡ true
  pub passes : valid_widths (lengths (r ∷ ten)) ≡ true
  pub white : next.colour ≡ false
  pub below : next.first < limit

module _ (r : ColourRun) (ten : List ColourRun) (next : ColourRun) (rs : List ColourRun) (long : length ten ≡ 10) where
  abbrev all : List ColourRun
  all = r ∷ ten ++ next ∷ rs

  eleven : length (r ∷ ten) ≡ 11
  eleven = ap suc long

  -- the first eleven, and the one after them
  pub first_eleven : take 11 all ≡ r ∷ ten
  first_eleven = take_at (r ∷ ten) (next ∷ rs) 11 eleven

  pub twelfth : run_at all 11 ≡ next
  twelfth = get_or_at (r ∷ ten) next rs (run_at [] 0) 11 eleven

  -- Twelve runs or more begin with a window exactly if `Eleven` holds of the first twelve.
  pub window_is : (limit : ℕ) → Window limit all 0 ↔ Eleven limit r ten next
  window_is limit = (forth, back)
    where
      eleven_pass : valid_widths (lengths (take 11 all)) ≡ valid_widths (lengths (r ∷ ten))
      eleven_pass = ap (λ (l : List ColourRun). valid_widths (lengths l)) first_eleven

      forth : Opens limit all → Eleven limit r ten next
      forth w = record {
        black = w.black;
        passes = sym eleven_pass ∙ w.passes;
        white = rw twelfth at w.white;
        below = rw twelfth at w.below;
      }

      back : Eleven limit r ten next → Opens limit all
      back e = record {
        black = e.black;
        passes = eleven_pass ∙ e.passes;
        followed = omega (arith, length-append (r ∷ ten) (next ∷ rs), eleven);
        white = rw twelfth e.white;
        below = rw twelfth e.below;
      }

-- ---- dropping the first run loses no window

-- Where no window begins with the first run, the answer over the others is the answer over all.
pub first_dropped : {limit : ℕ} {r : ColourRun} {rs : List ColourRun} {found : Option Bullseye} → ¬ Window limit (r ∷ rs) 0 → RowAnswer limit rs found
    → RowAnswer limit (r ∷ rs) found
first_dropped {limit} {r} {rs} no_first (nowhere no_later is) = nowhere each is
  where
    each : (k : ℕ) → ¬ Window limit (r ∷ rs) k
    each zero = no_first
    each (suc k) = no_later k
first_dropped {limit} {r} {rs} no_first (leftmost k at is) = leftmost (suc k) (record { window = at.window; none_before = before }) is
  where
    before : (j : ℕ) → j < suc k → ¬ Window limit (r ∷ rs) j
    before zero low = no_first
    before (suc j) low = at.none_before j (omega arith)

-- a window that begins with the first run is the leftmost
pub first_answers : {limit : ℕ} {rs : List ColourRun} → Window limit rs 0 → RowAnswer limit rs (Some (eye_at rs 0))
first_answers w = leftmost 0 (record { window = w; none_before = λ j low. absurd (omega arith) }) refl

-- no window is closed where every run from the twelfth on begins at or past the limit
pub none_late : (limit : ℕ) (rs : List ColourRun) → ((k : ℕ) → 11 ≤ k → k < length rs → limit ≤ (run_at rs k).first) → (k : ℕ) → ¬ Window limit rs k
none_late limit rs late k w =
    let there : run_at (drop k rs) 11 ≡ run_at rs (k + 11) = get_or-drop k rs 11 (run_at [] 0) in
    let far : limit ≤ (run_at rs (k + 11)).first = late (k + 11) (omega arith) (omega (arith, length-drop k rs, w.followed)) in
    let near : (run_at rs (k + 11)).first < limit = rw there at w.below in
    omega arith

-- ---- what an answer tells

module _ {limit : ℕ} {rs : List ColourRun} {found : Option Bullseye} (answer : RowAnswer limit rs found) where
  -- none, if there is no window
  pub none_if : ((k : ℕ) → ¬ Window limit rs k) → found ≡ None
  none_if no_window = go answer
    where
      go : RowAnswer limit rs found → found ≡ None
      go (nowhere _ is) = is
      go (leftmost k at is) = absurd (no_window k at.window)

  -- and only then
  pub none_only_if : found ≡ None → (k : ℕ) → ¬ Window limit rs k
  none_only_if e = go answer
    where
      go : RowAnswer limit rs found → (k : ℕ) → ¬ Window limit rs k
      go (nowhere no_window is) = no_window
      go (leftmost k at is) = cc

  -- the leftmost window, if there is one
  pub leftmost_is : (k : ℕ) → Leftmost limit rs k → found ≡ Some (eye_at rs k)
  leftmost_is k here = go answer
    where
      go : RowAnswer limit rs found → found ≡ Some (eye_at rs k)
      go (nowhere no_window is) = absurd (no_window k here.window)
      go (leftmost j at is) = which (dec_lt j k) (dec_lt k j)
        where
          which : Dec (j < k) → Dec (k < j) → found ≡ Some (eye_at rs k)
          which (yes before) other = absurd (here.none_before j before at.window)
          which (no _) (yes before) = absurd (at.none_before k before here.window)
          which (no a) (no b) =
              let same : j ≡ k = omega arith in
              is ∙ ap (λ (i : ℕ). Some (eye_at rs i)) same
