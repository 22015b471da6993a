-- The colours of the runs of a window, by the colours of its row's pixels: the one with which each run begins, and the one with which the present run ends.
-- Assumes nothing.
use Rattle.std.proofs.Common.{ℕ, zero, suc, ◌+◌, ◌-◌, ◌≤◌, ◌<◌, Bool, not, ◌≡◌, List, [], ◌∷◌, length, drop, replicate, arith, sym, ap, ◌∙◌, length-append, length-drop}
use Rattle.std.proofs.Math.Decide.{dec_lt}
use Rattle.std.proofs.Math.Bool.{not-not}
use Rattle.std.proofs.Math.ListN.{get_or, get_or-append}
use Rattle.std.proofs.Math.Seq.{get_or-set_other}
use Rattle.reads.specs.Total.{total}
use Rattle.reads.proofs.BitsLaws.{get_or_zeros}
use Rattle.detector_widths.specs.Buckets.{bump}
use Rattle.detector_window.specs.Window.{without_first}
use Rattle.detector_first_window.specs.TotalsLaws.{total_bump, total_bump_before, total_without, total_past, total_from, total_drop}

-- the colour of the n-th run before one of this colour: they take turns
abbrev pub colour_before : ℕ → Bool → Bool
colour_before zero colour = colour
colour_before (suc n) colour = colour_before n (not colour)

-- Runs counted up to `column`, in a row of these colours, the present one of colour `last`: the n-th before it begins with a pixel of
-- its colour, where it has one. `window_on` takes it from pixel to pixel.
pub record ColouredRuns (colours : ℕ → Bool) (column : ℕ) (last : Bool) (pointer : ℕ) (buckets : List ℕ) : Type 0 where
  pub begins : (i n : ℕ) → i + n ≡ pointer → 0 < get_or buckets i 0 → colours (column - total (drop i buckets)) ≡ colour_before n last
  pub ends : 0 < total buckets → colours (column - 1) ≡ last
  pub none_after : (i : ℕ) → pointer < i → total (drop i buckets) ≡ 0

-- before the first pixel
pub coloured_none : {colours : ℕ → Bool} {first : ℕ} {last : Bool} → ColouredRuns colours first last 0 (replicate 11 0)
unfolding total
coloured_none = record {
  begins = λ i n e some. absurd (omega (arith, get_or_zeros 11 i));
  ends = λ some. absurd (omega arith);
  none_after = λ i low. omega (arith, total_drop (replicate 11 0) i);
}

-- a run after the first, once that is dropped
run_without : (buckets : List ℕ) (i : ℕ) → suc i < length buckets → get_or (without_first buckets) i 0 ≡ get_or buckets (suc i) 0
run_without [] i h = absurd (omega arith)
run_without (n ∷ ns) i h = get_or-append ns (1 ∷ []) 0 i (omega arith)

module _ {colours : ℕ → Bool} {column : ℕ} {last : Bool} {pointer : ℕ} {buckets : List ℕ} (coloured : ColouredRuns colours column last pointer buckets) where
  -- ---- one pixel more in run `at`

  -- run i, that one or one before it, begins where it did
  begin_stays : (at i : ℕ) → i ≤ at → at < length buckets → colours (column + 1 - total (drop i (bump buckets at))) ≡ colours (column - total (drop i buckets))
  begin_stays at i low h =
      let same : column + 1 - total (drop i (bump buckets at)) ≡ column - total (drop i buckets) = omega (arith, total_bump buckets at i low h) in
      ap colours same

  -- run `at` begins here, where this is its first pixel
  begin_here : (at : ℕ) → at < length buckets → total (drop at buckets) ≡ 0 → colours (column + 1 - total (drop at (bump buckets at))) ≡ colours column
  begin_here at h none =
      let here : column - total (drop at buckets) ≡ column = omega arith in
      begin_stays at at (omega arith) h ∙ ap colours here

  -- a run before it had the pixels that it has
  run_kept : (at i : ℕ) → i < at → 0 < get_or (bump buckets at) i 0 → 0 < get_or buckets i 0
  unfolding bump
  run_kept at i low some =
      let same : get_or (bump buckets at) i 0 ≡ get_or buckets i 0 = get_or-set_other buckets at i (get_or buckets at 0 + 1) 0 (λ e. omega arith) in
      omega (arith, same)

  -- ---- the pixel at hand

  module _ {black : Bool} (now : black ≡ colours column) where
    -- the present run ends with it
    ends_here : colours (column + 1 - 1) ≡ black
    ends_here =
        let at_hand : column + 1 - 1 ≡ column = omega arith in
        ap colours at_hand ∙ sym now

    -- one pixel more in the present run
    pub coloured_same : pointer < length buckets → black ≡ last → ColouredRuns colours (column + 1) last pointer (bump buckets pointer)
    coloured_same h same = record {
      begins = begin;
      ends = λ _. ends_here ∙ same;
      none_after = λ i low. total_bump_before buckets pointer i low ∙ coloured.none_after i low;
    }
      where
        present : Dec (0 < get_or buckets pointer 0) → colours (column + 1 - total (drop pointer (bump buckets pointer))) ≡ last
        present (yes old) = begin_stays pointer pointer (omega arith) h ∙ coloured.begins pointer 0 (omega arith) old
        present (no new) =
            let none : total (drop pointer buckets) ≡ 0 = omega (arith, total_from buckets pointer, coloured.none_after (suc pointer) (omega arith)) in
            begin_here pointer h none ∙ sym now ∙ same

        begin : (i n : ℕ) → i + n ≡ pointer → 0 < get_or (bump buckets pointer) i 0
            → colours (column + 1 - total (drop i (bump buckets pointer))) ≡ colour_before n last
        begin i zero e some =
            let here : i ≡ pointer = omega arith in
            rw here (present (dec_lt 0 (get_or buckets pointer 0)))
        begin i (suc n) e some = begin_stays pointer i (omega arith) h ∙ coloured.begins i (suc n) e (run_kept pointer i (omega arith) some)

    module _ (turn : black ≡ not last) where
      -- the runs before are one more turn away
      one_before_turn : (n : ℕ) → colour_before n last ≡ colour_before (suc n) black
      one_before_turn n = ap (colour_before n) (sym (ap not turn ∙ not-not last))

      -- the next run begun
      pub coloured_next : pointer + 1 < length buckets → ColouredRuns colours (column + 1) black (pointer + 1) (bump buckets (pointer + 1))
      coloured_next h = record {
        begins = begin;
        ends = λ _. ends_here;
        none_after = λ i low. total_bump_before buckets (pointer + 1) i low ∙ coloured.none_after i (omega arith);
      }
        where
          begin : (i n : ℕ) → i + n ≡ pointer + 1 → 0 < get_or (bump buckets (pointer + 1)) i 0
              → colours (column + 1 - total (drop i (bump buckets (pointer + 1)))) ≡ colour_before n black
          begin i zero e some =
              let here : i ≡ pointer + 1 = omega arith in
              rw here (begin_here (pointer + 1) h (coloured.none_after (pointer + 1) (omega arith)) ∙ sym now)
          begin i (suc n) e some =
              begin_stays (pointer + 1) i (omega arith) h ∙ coloured.begins i n (omega arith) (run_kept (pointer + 1) i (omega arith) some) ∙ one_before_turn n

      -- the first run dropped
      pub coloured_without : length buckets ≡ pointer + 1 → ColouredRuns colours (column + 1) black pointer (without_first buckets)
      coloured_without full = record {
        begins = begin;
        ends = λ _. ends_here;
        none_after = λ i low.
            total_past (without_first buckets) i (omega (arith, length-append (drop 1 buckets) (1 ∷ []), length-drop 1 buckets));
      }
        where
          begin : (i n : ℕ) → i + n ≡ pointer → 0 < get_or (without_first buckets) i 0
              → colours (column + 1 - total (drop i (without_first buckets))) ≡ colour_before n black
          begin i zero e some =
              let here : column + 1 - total (drop i (without_first buckets)) ≡ column =
              omega (arith, total_without buckets i (omega arith), coloured.none_after (suc i) (omega arith)) in
              ap colours here ∙ sym now
          begin i (suc n) e some =
              let same : column + 1 - total (drop i (without_first buckets)) ≡ column - total (drop (suc i) buckets) =
              omega (arith, total_without buckets i (omega arith)) in
              let old : 0 < get_or buckets (suc i) 0 = omega (arith, run_without buckets i (omega arith)) in
              ap colours same ∙ coloured.begins (suc i) n (omega arith) old ∙ one_before_turn n
