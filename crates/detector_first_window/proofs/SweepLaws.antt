-- The laws by which the sweep goes from change to change. Assumes nothing.
use Rattle.std.proofs.Common.{ℕ, zero, suc, ◌+◌, ◌-◌, ◌*◌, ◌%◌, ◌≤◌, ◌<◌, min, add-zero, arith, Bool, true, false, not, cond, ◌&&◌, ◌≡◌, refl, sym, ap, ◌∙◌, List, lt-ltb, le-ltb, ltb, length, get_or, Option, Some, None}
use Rattle.std.proofs.Math.Decide.{dec_lt}
use Rattle.std.proofs.Math.Bool.{beq, false≢true}
use Rattle.reads.specs.Reads.{Reads, done}
use Rattle.reads.specs.Bits.{mark, mark_all, range}
use Rattle.reads.specs.RunsClauses.{Resumes}
use Rattle.reads.proofs.RunsLaws.{resumes_step, resumes_then, resumes_else, resumes_through}
use Rattle.bit_matrix.specs.declared.Shape.{Shape}
use Rattle.bit_matrix.specs.Shape.{size}
use Rattle.bit_matrix.specs.PixelsLaws.{ran_pixel}
use Rattle.bit_runs.specs.BitRuns.{row_bit}
use Rattle.detector_widths.specs.Buckets.{bump}
use Rattle.detector_widths.specs.Widths.{valid_widths}
use Rattle.detector_window.specs.Window.{metadata, without_first}
use Rattle.detector_first_window.specs.FirstWindow.{window_by}
use Rattle.detector_first_window.specs.FirstWindowClauses.{window_from}
use Rattle.detector_first_window.specs.FirstWindowLaws.{CountedRuns, counted_same, counted_next, counted_without}
use Rattle.detector_window.specs.Ring.{buckets_of, colour, closing, closed_by, started}
use Rattle.detector_window.specs.declared.Bullseye.{Bullseye}
use Rattle.detector_window.specs.RingLaws.{bump_run, colour_next, early, late}

beq_same : (b : Bool) → beq b b ≡ true
beq_same true = refl
beq_same false = refl

beq_other : (b : Bool) → beq (not b) b ≡ false
beq_other true = refl
beq_other false = refl

-- ---- the test that closes a window

-- the definition's, of the first pixel after run k
last_black : (valid black : Bool) → valid && not (not black) ≡ black && valid
last_black true true = refl
last_black true false = refl
last_black false true = refl
last_black false false = refl

closing_few : (ring : List ℕ) (k e : ℕ) → k < 10 → closing ring k e ≡ false
unfolding closing
closing_few ring k e h = rw (lt-ltb k 10 h)

closing_many : (ring : List ℕ) (k e : ℕ) → 10 ≤ k → valid_widths (buckets_of ring k e) && not (not (colour k)) ≡ closing ring k e
unfolding closing
closing_many ring k e h =
    last_black (valid_widths (buckets_of ring k e)) (colour k)
    ∙ ap (λ (t : Bool). cond t false (colour k && valid_widths (buckets_of ring k e))) (sym (le-ltb k 10 h))

pub closing_full : (ring : List ℕ) (k e : ℕ) → closing ring k e ≡ true → 10 ≤ k
closing_full ring k e shut = go (dec_lt k 10)
  where
    go : Dec (k < 10) → 10 ≤ k
    go (yes few) = absurd (false≢true (sym (closing_few ring k e few) ∙ shut))
    go (no many) = omega arith

-- the runs of the window that closes, by the test
module _ (ring : List ℕ) (k e : ℕ) where
  pub closed_some : {runs : List ℕ} → Some runs ≡ closed_by ring k e → (closing ring k e ≡ true) × (runs ≡ buckets_of ring k e)
  unfolding closed_by
  closed_some {runs} is = go (closing ring k e) refl is
    where
      go : (t : Bool) → closing ring k e ≡ t → Some runs ≡ cond t (Some (buckets_of ring k e)) None → (closing ring k e ≡ true) × (runs ≡ buckets_of ring k e)
      go true shut same = (shut, cc)
      go false shut same = cc

  pub closed_none : None ≡ closed_by ring k e → closing ring k e ≡ false
  unfolding closed_by
  closed_none is = go (closing ring k e) refl is
    where
      go : (t : Bool) → closing ring k e ≡ t → None ≡ cond t (Some (buckets_of ring k e)) None → closing ring k e ≡ false
      go true shut same = cc
      go false shut same = shut

-- ---- a sweep at a column, in run k

module _ (shape : Shape) (row limit : ℕ) where
  abbrev pub sweep_at : List ℕ → ℕ → ℕ → Reads (Option Bullseye)
  sweep_at ring k column = window_from shape row (limit - column) column (colour k) (min k 10) (buckets_of ring k column)

module _ {words : List ℕ} (shape : Shape) (row limit : ℕ) (stored : length words ≡ size shape) where
  module _ {before : List ℕ} {whole : Reads (Option Bullseye)} (ring : List ℕ) (k : ℕ) where
    module _ (x e : ℕ) (start : get_or ring (k % 16) 0 ≤ x) (after : x ≤ e) (within : e ≤ limit)
        (same : (j : ℕ) → x ≤ j → j < e → row_bit words (row * shape.row_words) j ≡ colour k) where
      onward : (i : ℕ) (m : List ℕ) → i < e - x → length m ≡ length words
          → Resumes words (sweep_at shape row limit ring k (x + i)) m whole before
          → Resumes words (sweep_at shape row limit ring k (x + (i + 1))) (mark m (row * shape.row_words * 64 + x + i)) whole before
      unfolding window_by
      onward i m h long rest =
          let some : limit - (x + i) ≡ suc (limit - (x + i + 1)) = omega arith in
          let next : x + i + 1 ≡ x + (i + 1) = omega arith in
          let index : row * shape.row_words * 64 + (x + i) ≡ row * shape.row_words * 64 + x + i = omega arith in
          let alike : beq (row_bit words (row * shape.row_words) (x + i)) (colour k) ≡ true =
          ap (λ (b : Bool). beq b (colour k)) (same (x + i) (omega arith) (omega arith)) ∙ beq_same (colour k) in
          let counted : bump (buckets_of ring k (x + i)) (min k 10) ≡ buckets_of ring k (x + i + 1) = bump_run ring k (x + i) (omega arith) in
          rw (← next, ← index, ← counted) (resumes_then _ _ alike (resumes_step _ (ran_pixel words m shape (x + i) row stored long) (rw some at rest)))

      -- the pixels from x up to e are of the present run's colour: they are read and counted
      pub resumes_run : {marks : List ℕ} → length marks ≡ length words → Resumes words (sweep_at shape row limit ring k x) marks whole before
          → Resumes words (sweep_at shape row limit ring k e) (mark_all marks (range (row * shape.row_words * 64 + x) (e - x))) whole before
      resumes_run {marks} sized rest =
          let there : x + (e - x) ≡ e = omega arith in
          let starts : Resumes words (sweep_at shape row limit ring k (x + 0)) marks whole before = rw add-zero rest in
          rw there at (resumes_through (λ (i : ℕ). sweep_at shape row limit ring k (x + i)) (row * shape.row_words * 64 + x) (e - x) onward sized starts)

    module _ (e : ℕ) {m : List ℕ} (inside : e < limit) (turned : row_bit words (row * shape.row_words) e ≡ not (colour k))
        (long : length m ≡ length words)
        (rest : Resumes words (sweep_at shape row limit ring k e) m whole before) where
      -- what is left after the pixel at e, of the other colour
      abbrev Left : Reads (Option Bullseye) → Type 0
      Left p = Resumes words p (mark m (row * shape.row_words * 64 + e)) whole before

      abbrev next : Bool → ℕ → List ℕ → Reads (Option Bullseye)
      next last pointer buckets = window_from shape row (limit - (e + 1)) (e + 1) last pointer buckets

      read_on : Left (cond (ltb (min k 10) 10)
          (next (not (colour k)) (min k 10 + 1) (bump (buckets_of ring k e) (min k 10 + 1)))
          (cond (valid_widths (buckets_of ring k e) && not (not (colour k)))
          (done (Some (metadata (buckets_of ring k e) e)))
          (next (not (colour k)) (min k 10) (without_first (buckets_of ring k e)))))
      unfolding window_by
      read_on =
          let some : limit - e ≡ suc (limit - (e + 1)) = omega arith in
          let apart : beq (row_bit words (row * shape.row_words) e) (colour k) ≡ false =
          ap (λ (b : Bool). beq b (colour k)) turned ∙ beq_other (colour k) in
          rw turned at (resumes_else _ _ apart (resumes_step _ (ran_pixel words m shape e row stored long) (rw some at rest)))

      -- the window closes
      pub resumes_closed : closing ring k e ≡ true → Left (done (Some (metadata (buckets_of ring k e) e)))
      resumes_closed shut =
          let full : 10 ≤ k = closing_full ring k e shut in
          resumes_then _ _ (closing_many ring k e full ∙ shut) (resumes_else _ _ (le-ltb (min k 10) 10 (omega arith)) read_on)

      -- or the next run begins
      pub resumes_next : length ring ≡ 16 → closing ring k e ≡ false → Left (sweep_at shape row limit (started ring k e) (k + 1) (e + 1))
      resumes_next size not_yet = go (dec_lt k 10)
        where
          go : Dec (k < 10) → Left (sweep_at shape row limit (started ring k e) (k + 1) (e + 1))
          go (yes few) =
              let place : min k 10 + 1 ≡ min (k + 1) 10 = omega arith in
              rw (colour_next k, ← place, ← early ring k e size few) (resumes_then _ _ (lt-ltb (min k 10) 10 (omega arith)) read_on)
          go (no many) =
              let place : min k 10 ≡ min (k + 1) 10 = omega arith in
              rw (colour_next k, ← place, ← late ring k e size (omega arith))
              (resumes_else _ _ (closing_many ring k e (omega arith) ∙ not_yet) (resumes_else _ _ (le-ltb (min k 10) 10 (omega arith)) read_on))

-- ---- the runs counted

module _ {from : ℕ} (ring : List ℕ) (k x : ℕ) where
  counted_by : (n : ℕ) → get_or ring (k % 16) 0 ≤ x → CountedRuns from x (min k 10) (buckets_of ring k x)
      → CountedRuns from (x + n) (min k 10) (buckets_of ring k (x + n))
  counted_by zero start counted = rw add-zero counted
  counted_by (suc n) start counted =
      let next : x + n + 1 ≡ x + suc n = omega arith in
      rw (← next, ← bump_run ring k (x + n) (omega arith)) (counted_same (counted_by n start counted))

  pub counted_to : (e : ℕ) → x ≤ e → get_or ring (k % 16) 0 ≤ x → CountedRuns from x (min k 10) (buckets_of ring k x)
      → CountedRuns from e (min k 10) (buckets_of ring k e)
  counted_to e after start counted =
      let there : x + (e - x) ≡ e = omega arith in
      rw there at (counted_by (e - x) start counted)

  pub counted_change : length ring ≡ 16 → CountedRuns from x (min k 10) (buckets_of ring k x)
      → CountedRuns from (x + 1) (min (k + 1) 10) (buckets_of (started ring k x) (k + 1) (x + 1))
  counted_change size counted = go (dec_lt k 10)
    where
      go : Dec (k < 10) → CountedRuns from (x + 1) (min (k + 1) 10) (buckets_of (started ring k x) (k + 1) (x + 1))
      go (yes few) =
          let place : min k 10 + 1 ≡ min (k + 1) 10 = omega arith in
          rw (← place, ← early ring k x size few) (counted_next counted (omega arith))
      go (no many) =
          let place : min k 10 ≡ min (k + 1) 10 = omega arith in
          rw (← place, ← late ring k x size (omega arith)) (counted_without counted (omega arith))
