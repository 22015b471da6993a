-- The row search of detector_rows answers none exactly where the runs of the row have no window, and the leftmost window elsewhere (`row_search`).
-- Assumes nothing.
use Rattle.std.proofs.Common.{ℕ, zero, suc, ◌+◌, ◌-◌, ◌*◌, ◌^◌, ◌≤◌, ◌<◌, arith, Bool, false, cond, ◌↔◌, ◌≡◌, take, drop, replicate, ◌∙◌, List, [], ◌++◌, Option, Some, None}
use Rattle.std.proofs.Math.Decide.{dec_lt}
use Rattle.std.proofs.Math.Bool.{true}
use Rattle.std.proofs.Math.Path.{refl, sym, ap, fun_ext}
use Rattle.std.proofs.Math.ListN.{length}
use Rattle.reads.specs.Reads.{done, value}
use Rattle.reads.proofs.ReadsLaws.{value_bind}
use Rattle.reads.specs.Bits.{bit_at, range}
use Rattle.reads.proofs.BitsLaws.{range_split}
use Rattle.bit_matrix.specs.declared.Shape.{Shape}
use Rattle.reads.specs.Runs.{value_of}
use Rattle.reads.specs.RunsClauses.{Ran}
use Rattle.bit_matrix.specs.Shape.{size}
use Rattle.bit_matrix.specs.Pixels.{pixel}
use Rattle.bit_matrix.specs.PixelsLaws.{ran_pixel}
use Rattle.bit_runs.specs.BitRuns.{row_bit, FirstBlack}
use Rattle.detector_widths.specs.WidthsF32.{valid_widths_f32}
use Rattle.detector_window.specs.declared.Bullseye.{Bullseye}
use Rattle.detector_window.specs.Window.{radius_of, metadata}
use Rattle.detector_first_window.specs.FirstWindow.{window_by}
use Rattle.detector_first_window.specs.FirstWindowClauses.{window_from}
use Rattle.detector_first_window.specs.FirstWindowLaws.{row_colours}
use Rattle.detector_rows.specs.Rows.{skip_white, next_bullseye_by}
use Rattle.detector_rows.specs.RowsClauses.{next_bullseye}
use Rattle.detector_rows.specs.RowsLaws.{closed_on, same_rows_f32}
use Rattle.row_runs.specs.RowRuns.{ColourRun, put_before, one_column, colour_runs, columns, from_first_black, runs_from_black, run_at, lengths}
use Rattle.row_runs.specs.RowRuns.{Window, Leftmost, closing_column, eye_at, RowAnswer, nowhere, leftmost}
use Rattle.row_runs.proofs.RowRunsLaws.{put_same, none_left, black_here, white_here, a_first_black, past_white, from_first_black_lem}
use Rattle.row_runs.proofs.WindowsLaws.{none_late, none_if, none_only_if, leftmost_is}
use Rattle.row_runs.proofs.ScanLaws.{runs_late, held_none, answer_same, scans}

-- ---- where the white ends

-- at the first black column, or after n columns
pub skips_to : (shape : Shape) (row : ℕ) (image : ℕ → Bool) (n x : ℕ)
    → FirstBlack (row_colours shape image row) x (x + n) (value (skip_white shape row n x) image)
unfolding skip_white value
skips_to shape row image zero x = rw (value_bind (pixel shape x row) (λ _. done x) image) (none_left (row_colours shape image row) x)
skips_to shape row image (suc n) x =
    rw (value_bind (pixel shape x row) (λ seen. cond seen (done x) (skip_white shape row n (x + 1))) image)
    (go (row_colours shape image row x) refl (skips_to shape row image n (x + 1)))
  where
    go : (seen : Bool) → row_colours shape image row x ≡ seen
        → FirstBlack (row_colours shape image row) (x + 1) (x + 1 + n) (value (skip_white shape row n (x + 1)) image)
        → FirstBlack (row_colours shape image row) x (x + suc n) (value (cond seen (done x) (skip_white shape row n (x + 1))) image)
    go true e later = black_here (row_colours shape image row) n x e
    go false e later = white_here (row_colours shape image row) n x e later

-- ---- the runs from there on

columns_split : (from middle end : ℕ) → from ≤ middle → middle ≤ end → columns from end ≡ columns from middle ++ columns middle end
columns_split from middle end low high =
    let parts : end - from ≡ middle - from + (end - middle) = omega arith in
    let there : from + (middle - from) ≡ middle = omega arith in
    ap (range from) parts ∙ range_split from (middle - from) (end - middle)
    ∙ ap (λ (x : ℕ). range from (middle - from) ++ range x (end - middle)) there

-- `runs_late`, of the runs from the first black column on
from_late : (black : ℕ → Bool) (limit n : ℕ) (k : ℕ) → k < length (colour_runs black (from_first_black black (range limit n)))
    → limit ≤ (run_at (colour_runs black (from_first_black black (range limit n))) k).first
from_late black limit n =
    let found = a_first_black black n limit in
    let all : limit + n - limit ≡ n = omega arith in
    let later : from_first_black black (range limit n) ≡ columns found.0 (limit + n) =
    ap (λ (m : ℕ). from_first_black black (range limit m)) (sym all) ∙ from_first_black_lem black found.1 in
    rw later (runs_late black limit found.0 (limit + n - found.0) found.1.after)

module _ (shape : Shape) (row : ℕ) (image : ℕ → Bool) (limit end : ℕ) where
  abbrev black : ℕ → Bool
  black = row_colours shape image row

  -- the window, from a column on
  abbrev window_at : ℕ → Option Bullseye
  window_at x = value (window_from shape row (limit - x) x true 0 (replicate 11 0)) image

  -- the white reaches the limit
  at_limit : (x : ℕ) → x ≡ limit → RowAnswer limit (colour_runs black (from_first_black black (columns limit end))) (window_at x)
  unfolding window_by value
  at_limit x e =
      let left : limit - x ≡ 0 = omega arith in
      answer_same refl (ap (λ (n : ℕ). value (window_from shape row n x true 0 (replicate 11 0)) image) left)
      (nowhere
      (none_late limit (colour_runs black (from_first_black black (columns limit end))) (λ k many inside. from_late black limit (end - limit) k inside))
      refl)

  -- a black pixel, and n columns after it up to the limit
  at_black : (n x : ℕ) → x + suc n ≡ limit → black x ≡ true → RowAnswer limit (colour_runs black (range x (suc n) ++ columns limit end)) (window_at x)
  unfolding colour_runs range
  at_black n x e dark =
      let left : limit - x ≡ suc n = omega arith in
      let after : List ColourRun = colour_runs black (range (x + 1) n ++ columns limit end) in
      answer_same
      (ap (λ (c : Bool). put_before (record { colour = c; first = x; length = 1 }) after) dark
      ∙ sym (put_same (record { colour = true; first = x; length = 0 }) (one_column black x) after (sym dark)))
      (ap (λ (k : ℕ). value (window_from shape row k x true 0 (replicate 11 0)) image) left)
      (scans shape row image limit (columns limit end) (runs_late black limit limit (end - limit) (omega arith)) (suc n) x true 0 (replicate 11 0) [] _ 10 e
      (held_none x))

  -- either, by where the white ends
  at_first : (start first : ℕ) → limit ≤ end → FirstBlack black start limit first → Dec (first < limit)
      → RowAnswer limit (colour_runs black (from_first_black black (columns start end))) (window_at first)
  at_first start first high ends (yes early) =
      let whole : FirstBlack black start end first =
      record { after = ends.after; within = omega arith; white = ends.white; black = λ _. ends.black early } in
      let more : limit - first ≡ suc (limit - first - 1) = omega arith in
      answer_same
      (ap (colour_runs black)
      (from_first_black_lem black whole ∙ columns_split first limit end (omega arith) high ∙ ap (λ (n : ℕ). range first n ++ columns limit end) more))
      refl
      (at_black (limit - first - 1) first (omega arith) (ends.black early))
  at_first start first high ends (no late) =
      let here : first ≡ limit = omega (arith, ends.within) in
      let reach : start + (limit - start) ≡ limit = omega (arith, ends.after) in
      answer_same
      (ap (λ (xs : List ℕ). colour_runs black (from_first_black black xs)) (columns_split start limit end (omega (arith, ends.after)) high)
      ∙ ap (colour_runs black) (past_white black (limit - start) start (columns limit end) (λ y low before. ends.white y low (omega (arith, reach)))))
      refl
      (at_limit first here)

-- ---- the answer

module _ (shape : Shape) (row start : ℕ) (image : ℕ → Bool) where
  -- the search's result, and the runs of the row
  abbrev pub eye_found : Option Bullseye
  eye_found = value (next_bullseye shape row start) image

  abbrev pub searched_runs : List ColourRun
  searched_runs = runs_from_black (row_colours shape image row) start shape.width

  -- the runs may stop before any column from width − 6 on: it makes no difference
  pub answers_to : (end : ℕ) → start ≤ shape.width - 6 → shape.width - 6 ≤ end
      → RowAnswer (shape.width - 6) (runs_from_black (row_colours shape image row) start end) eye_found
  unfolding next_bullseye_by
  answers_to end low high =
      let limit : ℕ = shape.width - 6 in
      let reach : start + (limit - start) ≡ limit = omega arith in
      let ends : FirstBlack (row_colours shape image row) start limit (value (skip_white shape row (limit - start) start) image) =
      rw reach at (skips_to shape row image (limit - start) start) in
      answer_same refl (value_bind (skip_white shape row (limit - start) start) _ image)
      (at_first shape row image limit end start (value (skip_white shape row (limit - start) start) image) high ends (dec_lt _ limit))

  -- For every start up to width − 6: none, where the runs of the row have no window, and the leftmost one elsewhere.
  pub row_search : start ≤ shape.width - 6 → RowAnswer (shape.width - 6) searched_runs eye_found
  row_search low = answers_to shape.width low (omega arith)

  -- the search with the source's test of the widths, in f32, answers the same
  pub row_search_f32 : start ≤ shape.width - 6 → shape.width ≤ 2 ^ 20
      → RowAnswer (shape.width - 6) searched_runs (value (next_bullseye_by valid_widths_f32 shape row start) image)
  row_search_f32 low narrow = rw ((same_rows_f32 shape row start narrow).values image) (row_search low)

  -- none exactly if there is no window
  pub none_exactly : start ≤ shape.width - 6 → (eye_found ≡ None) ↔ ((k : ℕ) → ¬ Window (shape.width - 6) searched_runs k)
  none_exactly low = (none_only_if (row_search low), none_if (row_search low))

  -- what is reported of the window at place k
  pub record Reported (k : ℕ) : Type 0 where
    pub eye : Bullseye
    pub found : eye_found ≡ Some eye
    pub runs : eye.buckets ≡ lengths (take 11 (drop k searched_runs))
    pub half : eye.radius ≡ radius_of eye.buckets
    pub closing : eye.center + eye.radius ≡ closing_column searched_runs k

  -- otherwise the leftmost window: its runs, half their sum, and the column that closes it
  pub leftmost_reported : start ≤ shape.width - 6 → (k : ℕ) → Leftmost (shape.width - 6) searched_runs k → Reported k
  unfolding metadata
  leftmost_reported low k at =
      let found : eye_found ≡ Some (eye_at searched_runs k) = leftmost_is (row_search low) k at in
      let closed = rw found at (closed_on shape row start image).holds in
      record {
        eye = eye_at searched_runs k;
        found = found;
        runs = refl;
        half = closed.half;
        closing = omega (arith, closed.half, closed.after_start, closed.eleven_pixels);
      }

  -- so wherever there is a window
  pub window_reported : start ≤ shape.width - 6 → (k : ℕ) → Window (shape.width - 6) searched_runs k
      → (j : ℕ) × Leftmost (shape.width - 6) searched_runs j × Reported j
  window_reported low k here = go (row_search low)
    where
      go : RowAnswer (shape.width - 6) searched_runs eye_found → (j : ℕ) × Leftmost (shape.width - 6) searched_runs j × Reported j
      go (nowhere no_window _) = absurd (no_window k here)
      go (leftmost j at _) = (j, at, leftmost_reported low j at)

-- ---- on an image's words, and of the function's result

-- the colour of a column, stored or not
row_colour : (shape : Shape) (row : ℕ) (words : List ℕ) → length words ≡ size shape
    → row_colours shape (bit_at words) row ≡ row_bit words (row * shape.row_words)
unfolding value_of
row_colour shape row words stored = fun_ext λ x. sym (ran_pixel words words shape x row stored refl).result

-- what `find_next_bullseye_horizontal` ensures of its result says that it is the answer over the stored row
pub ran_answers : (shape : Shape) (row start : ℕ) {words before after : List ℕ} {found : Option Bullseye} → start ≤ shape.width - 6 → length words ≡ size shape
    → Ran (next_bullseye shape row start) words before found after
    → RowAnswer (shape.width - 6) (runs_from_black (row_bit words (row * shape.row_words)) start shape.width) found
unfolding value_of
ran_answers shape row start {words} low stored ran =
    rw (ran.result, ← row_colour shape row words stored) (row_search shape row start (bit_at words) low)
