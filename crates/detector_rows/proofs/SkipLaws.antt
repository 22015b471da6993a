-- The laws by which white is skipped at once. Assumes nothing.
use Rattle.std.proofs.Common.{ℕ, zero, suc, ◌+◌, ◌-◌, ◌*◌, ◌<◌, add-zero, arith, ◌≡◌, ◌∙◌, List, length}
use Rattle.std.proofs.Math.Nat.{sub-zero}
use Rattle.reads.specs.Reads.{Reads}
use Rattle.reads.specs.Bits.{mark, mark_all, range}
use Rattle.reads.proofs.BitsLaws.{length_mark_all, range_last}
use Rattle.reads.specs.RunsClauses.{Ran, Resumes}
use Rattle.reads.proofs.RunsLaws.{ran_done, resumes_start, resumes_step, resumes_then, resumes_else, resumes_end, resumes_through}
use Rattle.bit_matrix.specs.declared.Shape.{Shape}
use Rattle.bit_matrix.specs.Shape.{size}
use Rattle.bit_matrix.specs.PixelsLaws.{ran_pixel}
use Rattle.bit_runs.specs.BitRuns.{row_bit, FirstBlack}
use Rattle.detector_rows.specs.Rows.{skip_white}

-- what is left of a scan at its i-th pixel
abbrev left : Shape → ℕ → ℕ → ℕ → ℕ → Reads ℕ
left shape n x y i = skip_white shape y (n - i) (x + i)

-- n white pixels or fewer, and the pixel after them, which is read whatever its colour
module _ (words marks : List ℕ) (shape : Shape) (n x y : ℕ) {end : ℕ} (stored : length words ≡ size shape) (sized : length marks ≡ length words)
    (ends : FirstBlack (row_bit words (y * shape.row_words)) x (x + n) end) where
  white : (whole : Reads ℕ) (i : ℕ) (m : List ℕ) → i < end - x → length m ≡ length words
      → Resumes words (left shape n x y i) m whole marks
      → Resumes words (left shape n x y (i + 1)) (mark m (y * shape.row_words * 64 + x + i)) whole marks
  unfolding skip_white
  white whole i m h long rest =
      let some : n - i ≡ suc (n - (i + 1)) = omega (arith, ends.within, ends.after) in
      let next : x + i + 1 ≡ x + (i + 1) = omega arith in
      let index : y * shape.row_words * 64 + (x + i) ≡ y * shape.row_words * 64 + x + i = omega arith in
      rw (← next, ← index)
      (resumes_else _ _ (ends.white (x + i) (omega arith) (omega (arith, ends.after)))
      (resumes_step _ (ran_pixel words m shape (x + i) y stored long) (rw some at rest)))

  -- the last pixel
  last : (whole : Reads ℕ) (m : List ℕ) (left : ℕ) → left ≡ x + n - end → length m ≡ length words
      → Resumes words (skip_white shape y left end) m whole marks → Ran whole words marks end (mark m (y * shape.row_words * 64 + end))
  unfolding skip_white
  last whole m zero e long rest = resumes_end (ran_done end) (resumes_step _ (ran_pixel words m shape end y stored long) rest)
  last whole m (suc more) e long rest =
      resumes_end (ran_done end) (resumes_then _ _ (ends.black (omega arith)) (resumes_step _ (ran_pixel words m shape end y stored long) rest))

  pub ran_skip : Ran (skip_white shape y n x) words marks end (mark_all marks (range (y * shape.row_words * 64 + x) (end + 1 - x)))
  ran_skip =
      let whole = skip_white shape y n x in
      let there : x + (end - x) ≡ end = omega (arith, ends.after) in
      let index : y * shape.row_words * 64 + end ≡ y * shape.row_words * 64 + x + (end - x) = omega (arith, ends.after) in
      let more : end + 1 - x ≡ end - x + 1 = omega (arith, ends.after) in
      let starts : Resumes words (left shape n x y 0) marks whole marks = rw (sub-zero n, add-zero x) resumes_start in
      let through : Resumes words (left shape n x y (end - x)) (mark_all marks (range (y * shape.row_words * 64 + x) (end - x))) whole marks =
      resumes_through (left shape n x y) (y * shape.row_words * 64 + x) (end - x) (white whole) sized starts in
      rw (more, range_last, ← index)
      (last whole (mark_all marks (range (y * shape.row_words * 64 + x) (end - x))) (n - (end - x)) (omega (arith, ends.after))
      (length_mark_all marks (range (y * shape.row_words * 64 + x) (end - x)) ∙ sized) (rw there at through))
