-- What holds of the first window of a row from a column on, on the image at hand: where its runs lie, and that they begin and end with a black pixel; and that
-- with the source's test of the widths it is the same. Assumes nothing.
use Rattle.std.proofs.Common.{ℕ, zero, suc, ◌+◌, ◌-◌, ◌*◌, ◌/◌, ◌^◌, ◌≤◌, ◌<◌, arith, sym, ap, ◌∙◌, length-drop, length-append, get_or-set_other, get_or-drop, Bool, false, ◌&&◌, ◌≢◌, ◌≡◌, refl, List, [], ◌∷◌, ◌++◌, ltb, get_or, drop, replicate, Option, IfSome, ltb-true, ltb-false}
use Rattle.std.proofs.Math.Decide.{ℕ_discrete}
use Rattle.std.proofs.Math.Bool.{true, not}
use Rattle.std.specs.Bool.{beq}
use Rattle.std.proofs.lemmas.Bool.{false≢true, not-true, not-false}
use Rattle.std.proofs.Math.ListN.{length, length-set}
use Rattle.std.proofs.Math.Seq.{get_or-set_same}
use Rattle.reads.specs.Reads.{value}
use Rattle.reads.specs.ReadsLaws.{On, Same}
use Rattle.reads.proofs.ReadsLaws.{on_done, on_after, on_cond, same_refl, same_after, same_cond}
use Rattle.bit_matrix.specs.declared.Shape.{Shape}
use Rattle.bit_matrix.specs.Pixels.{pixel}
use Rattle.detector_widths.specs.Buckets.{bump}
use Rattle.detector_widths.specs.Widths.{even_total, even_runs_pass, valid_widths}
use Rattle.detector_widths.specs.WidthsF32.{valid_widths_f32}
use Rattle.detector_widths.specs.SameWidthsLaws.{same_widths}
use Rattle.reads.specs.Total.{total}
use Rattle.detector_window.specs.Window.{metadata, without_first}
use Rattle.detector_first_window.specs.FirstWindow.{window_by}
use Rattle.detector_first_window.specs.FirstWindowClauses.{window_from}
use Rattle.detector_first_window.specs.TotalsLaws.{total_bump, total_without, total_drop, at_most_total, total_positive, parts_total}
use Rattle.detector_first_window.specs.ColouredLaws.{ColouredRuns, coloured_same, coloured_next, coloured_without}
use Rattle.detector_window.specs.declared.Bullseye.{Bullseye}

-- ---- the runs so far

-- Runs counted from column `start` on, up to `column`: each but the first has a pixel. `window_on` takes it from
-- pixel to pixel, so that it holds of every window that is tested.
pub record CountedRuns (start column pointer : ℕ) (buckets : List ℕ) : Type 0 where
  pub eleven : length buckets ≡ 11
  pub few : pointer ≤ 10
  pub sum : start + total buckets ≤ column
  pub some : (i : ℕ) → 0 < i → i ≤ pointer → 0 < get_or buckets i 0

-- a new last run has a pixel
last_some : (buckets : List ℕ) (i : ℕ) → i ≤ length buckets → ((j : ℕ) → j ≤ i → j < length buckets → 0 < get_or buckets j 0) → 0 < get_or (buckets ++ 1 ∷ []) i 0
last_some [] zero h some = omega arith
last_some [] (suc i) h some = absurd (omega arith)
last_some (n ∷ ns) zero h some = some 0 (omega arith) (omega arith)
last_some (n ∷ ns) (suc i) h some = last_some ns i (omega arith) (λ j low less. some (suc j) (omega arith) (omega arith))

-- before the first pixel
pub counted_none : {start first : ℕ} → start ≤ first → CountedRuns start first 0 (replicate 11 0)
unfolding total
counted_none h = record { eleven = refl; few = omega arith; sum = omega arith; some = λ i low high. absurd (omega arith) }

module _ {start column pointer : ℕ} {buckets : List ℕ} (counted : CountedRuns start column pointer buckets) where
  -- run i has a pixel, once run `at` has one more
  bump_some : (at i : ℕ) → at < 11 → Dec (i ≡ at) → (i ≢ at → 0 < get_or buckets i 0) → 0 < get_or (bump buckets at) i 0
  unfolding bump
  bump_some at i h (yes e) old =
      let long : at < length buckets = omega (arith, counted.eleven) in
      rw (e, get_or-set_same buckets at (get_or buckets at 0 + 1) 0 long) (omega arith)
  bump_some at i h (no other) old = rw (get_or-set_other buckets at i (get_or buckets at 0 + 1) 0 other) (old other)

  more : (at : ℕ) → at < 11 → start + total (bump buckets at) ≤ column + 1
  more at h = omega (arith, total_bump buckets at 0 (omega arith) (omega (arith, counted.eleven)), counted.sum)

  same_length : (at : ℕ) → length (bump buckets at) ≡ 11
  unfolding bump
  same_length at = length-set buckets at _ ∙ counted.eleven

  -- whatever widths are tested, the test is the source's in f32
  counted_widths : column ≤ 2 ^ 20 → valid_widths_f32 buckets ≡ valid_widths buckets
  counted_widths h =
      same_widths buckets (omega (arith, parts_total buckets, counted.sum)) (omega (arith, parts_total buckets, counted.sum))

  -- one pixel more in the present run
  pub counted_same : CountedRuns start (column + 1) pointer (bump buckets pointer)
  counted_same = record {
    eleven = same_length pointer;
    few = counted.few;
    sum = more pointer (omega (arith, counted.few));
    some = λ i low high. bump_some pointer i (omega (arith, counted.few)) (ℕ_discrete i pointer) (λ other. counted.some i low high);
  }

  -- the next run begun
  pub counted_next : pointer < 10 → CountedRuns start (column + 1) (pointer + 1) (bump buckets (pointer + 1))
  counted_next h = record {
    eleven = same_length (pointer + 1);
    few = omega arith;
    sum = more (pointer + 1) (omega arith);
    some = λ i low high. bump_some (pointer + 1) i (omega arith) (ℕ_discrete i (pointer + 1)) (λ other. counted.some i low (omega arith));
  }

  -- the first run dropped
  pub counted_without : 10 ≤ pointer → CountedRuns start (column + 1) pointer (without_first buckets)
  counted_without full =
      let long : length (drop 1 buckets) ≡ 10 = length-drop 1 buckets ∙ omega (arith, counted.eleven) in
      record {
        eleven = length-append (drop 1 buckets) (1 ∷ []) ∙ omega (arith, long);
        few = counted.few;
        sum = omega (arith, total_without buckets 0 (omega (arith, counted.eleven)), total_drop buckets 1, counted.sum);
        some = λ i low high. last_some (drop 1 buckets) i (omega (arith, long, counted.few))
            (λ j below less. rw get_or-drop (counted.some (1 + j) (omega arith) (omega (arith, long))));
      }

-- ---- a window that was found

-- the colours of a row's pixels on an image
abbrev pub row_colours : Shape → (ℕ → Bool) → ℕ → ℕ → Bool
row_colours shape image row column = value (pixel shape column row) image

-- The window's runs lie between the start and the column that closed it, `center + radius`. On this image the first begins with a black pixel, and the last
-- ends with one.
pub record Closed (shape : Shape) (image : ℕ → Bool) (row start : ℕ) (eye : Bullseye) : Type 0 where
  pub after_start : start + total eye.buckets ≤ eye.center + eye.radius
  pub before_limit : eye.center + eye.radius < shape.width - 6
  pub half : eye.radius ≡ (total eye.buckets + 1) / 2
  pub eleven_pixels : 11 ≤ total eye.buckets
  pub eleven_runs : length eye.buckets ≡ 11
  pub narrow : (i : ℕ) → get_or eye.buckets i 0 ≤ shape.width
  pub first_black : value (pixel shape (eye.center + eye.radius - total eye.buckets) row) image ≡ true
  pub last_black : value (pixel shape (eye.center + eye.radius - 1) row) image ≡ true

and_left : (a b : Bool) → a && b ≡ true → a ≡ true
and_left true b e = refl
and_left false b e = e

and_right : (a b : Bool) → a && b ≡ true → b ≡ true
and_right true b e = e
and_right false b e = absurd (false≢true e)

-- the first run has a pixel where the widths pass
first_some : (buckets : List ℕ) → valid_widths buckets ≡ true → 0 < get_or buckets 0 0
unfolding valid_widths even_runs_pass
first_some buckets pass =
    let first = and_left _ _ (and_left _ _ (and_left _ _ (and_left _ _ (and_left _ _ (and_left _ _ (and_left _ _ pass)))))) in
    let wide : even_total buckets < 10 * get_or buckets 0 0 = ltb-true (even_total buckets) (10 * get_or buckets 0 0) first in
    omega (arith, wide)

closed : {shape : Shape} {image : ℕ → Bool} {row start column : ℕ} {buckets : List ℕ}
    → CountedRuns start column 10 buckets → ColouredRuns (row_colours shape image row) column true 10 buckets
    → valid_widths buckets ≡ true → column < shape.width - 6
    → Closed shape image row start (metadata buckets column)
unfolding metadata
closed {shape} {image} {row} {start} {column} {buckets} counted coloured pass before =
    let each : (i : ℕ) → Dec (i ≡ 0) → i < length buckets → 0 < get_or buckets i 0 =
    (λ i first low. by_place i first low) in
    let many : length buckets ≤ total buckets = total_positive buckets (λ i low. each i (ℕ_discrete i 0) low) in
    let closing : column - (total buckets + 1) / 2 + (total buckets + 1) / 2 ≡ column = omega (arith, counted.sum, counted.eleven, many) in
    record {
      after_start = omega (arith, counted.sum, counted.eleven, many);
      before_limit = omega (arith, counted.sum, counted.eleven, many);
      half = refl;
      eleven_pixels = omega (arith, counted.eleven, many);
      eleven_runs = counted.eleven;
      narrow = λ i. omega (arith, at_most_total buckets i, counted.sum);
      first_black = ap (λ (x : ℕ). row_colours shape image row (x - total buckets)) closing ∙ coloured.begins 0 10 refl (first_some buckets pass);
      last_black = ap (λ (x : ℕ). row_colours shape image row (x - 1)) closing ∙ coloured.ends (omega (arith, counted.eleven, many));
    }
  where
    by_place : (i : ℕ) → Dec (i ≡ 0) → i < length buckets → 0 < get_or buckets i 0
    by_place i (yes e) low = rw e (first_some buckets pass)
    by_place i (no later) low = counted.some i (omega arith) (omega (arith, counted.eleven))

-- what a search says of its result, on this image
abbrev pub FoundWindow : Shape → (ℕ → Bool) → ℕ → ℕ → Option Bullseye → Type 0
FoundWindow shape image row start found = IfSome found (Closed shape image row start)

beq_true : (a b : Bool) → beq a b ≡ true → a ≡ b
beq_true true true e = refl
beq_true true false e = sym e
beq_true false true e = e
beq_true false false e = refl

beq_false : (a b : Bool) → beq a b ≡ false → a ≡ not b
beq_false true true e = e
beq_false true false e = refl
beq_false false true e = refl
beq_false false false e = sym e

-- a run is black where the pixel after it is white
black_before : (black last : Bool) → black ≡ not last → not black ≡ true → last ≡ true
black_before black last turn white = not-false last (sym turn ∙ not-true black white)

module _ (shape : Shape) (row : ℕ) (image : ℕ → Bool) where
  pub window_on : {start : ℕ} (n column : ℕ) (last : Bool) (pointer : ℕ) (buckets : List ℕ)
      → n ≤ shape.width - 6 - column → CountedRuns start column pointer buckets → ColouredRuns (row_colours shape image row) column last pointer buckets
      → On image (FoundWindow shape image row start) (window_from shape row n column last pointer buckets)
  unfolding window_by
  window_on zero column last pointer buckets h counted coloured = on_done image tt
  window_on {start} (suc n) column last pointer buckets h counted coloured =
      on_after image _ _ λ black now. on_cond image (beq black last)
      (λ same. window_on n (column + 1) last pointer (bump buckets pointer) (omega arith) (counted_same counted)
      (coloured_same coloured now (omega (arith, counted.eleven, counted.few)) (beq_true black last same)))
      (λ other.
      let turn : black ≡ not last = beq_false black last other in
      on_cond image (ltb pointer 10)
      (λ early. window_on n (column + 1) black (pointer + 1) (bump buckets (pointer + 1)) (omega arith) (counted_next counted (ltb-true pointer 10 early))
      (coloured_next coloured now turn (omega (arith, counted.eleven, ltb-true pointer 10 early))))
      (λ late. on_cond image (valid_widths buckets && not black)
      (λ pass. on_done image (closes black turn (ltb-false pointer 10 late) pass))
      (λ _. window_on n (column + 1) black pointer (without_first buckets) (omega arith) (counted_without counted (ltb-false pointer 10 late))
      (coloured_without coloured now turn (omega (arith, counted.eleven, counted.few, ltb-false pointer 10 late))))))
    where
      closes : (black : Bool) → black ≡ not last → 10 ≤ pointer → valid_widths buckets && not black ≡ true
          → Closed shape image row start (metadata buckets column)
      closes black turn full pass =
          let ten : pointer ≡ 10 = omega (arith, counted.few) in
          let dark : last ≡ true = black_before black last turn (and_right (valid_widths buckets) (not black) pass) in
          closed (rw ten at counted) (rw (ten, dark) at coloured) (and_left _ _ pass) (omega arith)

-- ---- with the source's test of the widths

module _ (shape : Shape) (row : ℕ) where
  pub same_window : {start width : ℕ} (n column : ℕ) (last : Bool) (pointer : ℕ) (buckets : List ℕ)
      → width ≤ 2 ^ 20 → n ≤ width - 6 - column → CountedRuns start column pointer buckets
      → Same (window_by valid_widths_f32 shape row n column last pointer buckets) (window_from shape row n column last pointer buckets)
  unfolding window_by
  same_window zero column last pointer buckets narrow h counted = same_refl
  same_window (suc n) column last pointer buckets narrow h counted =
      same_after _ _ same_refl λ black. same_cond (beq black last)
      (λ _. same_window n (column + 1) last pointer (bump buckets pointer) narrow (omega arith) (counted_same counted))
      (λ _. same_cond (ltb pointer 10)
      (λ early. same_window n (column + 1) black (pointer + 1) (bump buckets (pointer + 1)) narrow (omega arith)
      (counted_next counted (ltb-true pointer 10 early)))
      (λ late. rw (counted_widths counted (omega arith))
      (same_cond (valid_widths buckets && not black)
      (λ _. same_refl)
      (λ _. same_window n (column + 1) black pointer (without_first buckets) narrow (omega arith) (counted_without counted (ltb-false pointer 10 late))))))
