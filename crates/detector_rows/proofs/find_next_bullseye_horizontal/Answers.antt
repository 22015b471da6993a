-- `detector_rows::find_next_bullseye_horizontal` meets its contract: the columns of the white and of the sweep are marked at once.
use Rattle.std.proofs.Common.{ℕ, refl, ◌+◌, ◌-◌, ◌*◌, max, ◌≡◌, ◌∙◌, List, arith, Option}
use Rattle.reads.specs.Bits.{mark_all, range}
use Rattle.reads.proofs.BitsLaws.{length_mark_all}
use Rattle.reads.specs.RunsClauses.{Ran}
use Rattle.reads.proofs.RunsLaws.{ran_bind}
use Rattle.bit_matrix.specs.declared.Shape.{Shape}
use Rattle.bit_matrix.specs.ShapeClauses.{Image}
use Rattle.bit_runs.specs.BitRuns.{row_bit, FirstBlack}
use Rattle.reads.proofs.OrderLaws.{range_again}
use Rattle.detector_rows.specs.Rows.{next_bullseye_by}
use Rattle.detector_rows.specs.RowsClauses.{next_bullseye}
use Rattle.detector_first_window.specs.FirstWindowClauses.{read_to, Swept}
use Rattle.detector_window.specs.declared.Bullseye.{Bullseye}
use Rattle.detector_rows.proofs.SkipLaws.{ran_skip}
use Rattle.detector_rows.proofs.find_next_bullseye_horizontal.Goals as goal

module _ (shape : Shape) (row start : ℕ) (words m₀ : List ℕ) {m₁ : List ℕ} {from read to first : ℕ} {found : Option Bullseye}
    (image : Image shape words m₀) (skipped : FirstBlack (row_bit words (row * shape.row_words)) start (max start (shape.width - 6)) from)
    (swept : Swept words shape row from (shape.width - 6) found) (last : read ≡ read_to (shape.width - 6) found) (end : to ≡ max (from + 1) read)
    (here : first ≡ row * shape.row_words) (marked : m₁ ≡ mark_all m₀ (range (first * 64 + start) (to - start))) where
  -- the white's marks and the sweep's are those of one range
  joined : mark_all (mark_all m₀ (range (row * shape.row_words * 64 + start) (from + 1 - start)))
      (range (row * shape.row_words * 64 + from) (read_to (shape.width - 6) found - from)) ≡ m₁
  joined =
      let white : from + 1 - start ≡ from - start + 1 = omega (arith, skipped.after) in
      let there : row * shape.row_words * 64 + from ≡ row * shape.row_words * 64 + start + (from - start) = omega (arith, skipped.after) in
      let all : from - start + max (read_to (shape.width - 6) found - from) 1 ≡ to - start = omega (arith, skipped.after, last, end) in
      rw (white, there, range_again, all, marked, here)

  whole : Ran (next_bullseye shape row start) words m₀ found m₁
  unfolding next_bullseye_by
  whole =
      let reach : max start (shape.width - 6) ≡ start + (shape.width - 6 - start) = omega arith in
      rw (← joined)
      (ran_bind _ (ran_skip words m₀ shape (shape.width - 6 - start) start row image.stored image.sized (rw reach at skipped))
      (swept.ran (mark_all m₀ (range (row * shape.row_words * 64 + start) (from + 1 - start))) (length_mark_all m₀ _ ∙ image.sized)))

pub returns : goal.returns
returns c =
    let same = c.unmarked-unmarked.ensures in
    record {
      kept = record { words = refl; shape = refl; lent = refl };
      ran =
          whole _ _ _ _ _ c.args.image.now.is_image (rw (same.words, same.shape) at c.skip_white-from.ensures)
          (rw (same.words, same.shape) at c.sweep-found.ensures) c.read_to.ensures c.max-to.ensures c.first_word.ensures.0 c.mark_range.ensures;
    }
