-- `detector_columns::get_column_vector` meets its contract.
use Rattle.std.proofs.Common.{ℕ, suc, ◌+◌, ◌-◌, ◌≤◌, ◌<◌, ◌≡◌, refl, Bool, true, false, cond, List, arith, ltb-true, lt-ltb, le-ltb, ltb, set, replicate, length-set}
use Rattle.reads.proofs.BitsLaws.{get_or_zeros}
use Rattle.reads.specs.RunsClauses.{Ran}
use Rattle.reads.proofs.RunsLaws.{ran_done, resumes_start, resumes_step, resumes_then, resumes_else, resumes_end}
use Rattle.bit_matrix.specs.declared.BitMatrix.{BitMatrix}
use Rattle.bit_matrix.specs.ImageClauses.{RanOn}
use Rattle.bit_matrix.proofs.ImageLaws.{kept_same, kept_on, onto}
use Rattle.bit_matrix.specs.Pixels.{pixel}
use Rattle.detector_widths.specs.Widths.{at}
use Rattle.detector_widths.specs.Buckets.{bump}
use Rattle.detector_columns.specs.declared.Direction.{Direction}
use Rattle.detector_columns.specs.declared.Direction.TheVariants.{Up, Down}
use Rattle.detector_columns.specs.Columns.{pointer_after, row_after, rows_left, vector_from, column_vector}
use Rattle.detector_columns.specs.ColumnsLaws.{bump_le, rows_le}
use Rattle.detector_columns.proofs.get_column_vector.Invariants.{Looking}
use Rattle.detector_columns.proofs.get_column_vector.Goals as goal

-- ---- the rows left
-- one less after a row that is looked at
rows_next : (direction : Direction) (height row : ℕ) → 0 < row → row < height → rows_left direction height row ≡ suc (rows_left direction height (row_after row direction))
unfolding rows_left
rows_next Up height row above below =
    let next : 0 < row + 1 = omega arith in
    let less : height - row ≡ suc (height - (row + 1)) = omega arith in
    rw (lt-ltb _ _ above, lt-ltb _ _ next, less)
rows_next Down height row above below =
    let next : row - 1 < height = omega arith in
    let less : row ≡ suc (row - 1) = omega arith in
    rw (lt-ltb _ _ below, lt-ltb _ _ next) less

-- none at row 0, and none outside
rows_bottom : (direction : Direction) (height row : ℕ) → row ≤ 0 → rows_left direction height row ≡ 0
unfolding rows_left
rows_bottom Up height row h = rw (le-ltb _ _ h)
rows_bottom Down height row h = both (ltb row height)
  where
    both : (b : Bool) → cond b row 0 ≡ 0
    both true = omega arith
    both false = refl

rows_top : (direction : Direction) (height row : ℕ) → height ≤ row → rows_left direction height row ≡ 0
unfolding rows_left
rows_top Up height row h = both (ltb 0 row)
  where
    both : (b : Bool) → cond b (height - row) 0 ≡ 0
    both true = omega arith
    both false = refl
rows_top Down height row h = rw (le-ltb _ _ h)

begins : {image : BitMatrix} {column start : ℕ} {direction : Direction}
    → Looking image column start direction image (replicate 6 0) start false 0
unfolding column_vector
begins {image = image} {start = start} {direction = direction} = record {
  kept = kept_same;
  six = refl;
  within = omega arith;
  room = λ k. rw (get_or_zeros 6 k) (omega (arith, rows_le direction image.shape.height start));
  resumes = resumes_start;
}

module _ {before image : BitMatrix} {buckets : List ℕ} {column start row pointer : ℕ} {direction : Direction} {last : Bool}
    (looking : Looking before column start direction image buckets row last pointer) where
  no_row : rows_left direction image.shape.height row ≡ 0 → RanOn (column_vector before.shape column start direction) before buckets image
  unfolding vector_from
  no_row none = record { kept = looking.kept; ran = resumes_end (ran_done buckets) (rw (rw looking.kept.shape at none) at looking.resumes) }

  module _ (above : 0 < row) (below : row < image.shape.height) where
    one_less : rows_left direction before.shape.height row ≡ suc (rows_left direction before.shape.height (row_after row direction))
    one_less = rows_next direction before.shape.height row above (rw looking.kept.shape at below)

    fewer : {next : ℕ} → next ≡ row_after row direction
        → rows_left direction before.shape.height next < rows_left direction before.shape.height row
    fewer e = rw e (omega (arith, one_less))

    module _ {after : BitMatrix} {black : Bool} (read : RanOn (pixel image.shape column row) image black after)
        {run : ℕ} (chosen : run ≡ pointer_after pointer black last) where
      ran : Ran (pixel before.shape column row) before.words.now image.marks.now black after.marks.now
      ran = onto (λ shape. pixel shape column row) looking.kept read

      onward : {next : ℕ} → next ≡ row_after row direction → run ≤ 5
          → Looking before column start direction after (set buckets run (at buckets run + 1)) next black run
      unfolding vector_from bump
      onward {next} moved most = record {
        kept = kept_on looking.kept read.kept;
        six = simp length-set looking.six;
        within = most;
        room = rw moved λ k. omega (arith, one_less, looking.room k, bump_le buckets run k);
        resumes = rw (moved, chosen) (resumes_else _ _ (rw chosen at (le-ltb _ _ most)) (resumes_step _ ran (rw one_less at looking.resumes)));
      }

      seventh : 5 < run → RanOn (column_vector before.shape column start direction) before buckets after
      unfolding vector_from
      seventh past = record {
        kept = kept_on looking.kept read.kept;
        ran =
            resumes_end (ran_done buckets)
            (resumes_then _ _ (rw chosen at (lt-ltb _ _ past)) (resumes_step _ ran (rw one_less at looking.resumes)));
      }

pub loop-row-init : goal.loop-row-init
loop-row-init c = begins

pub loop-row-smaller : goal.loop-row-smaller
loop-row-smaller c = search (fewer, ltb-true)

pub loop-row-preserved : goal.loop-row-preserved
loop-row-preserved c = search onward

pub returns-else-row-image : goal.returns-else-row-image
returns-else-row-image c = search (no_row, rows_top)

pub returns-after-loop-row : goal.returns-after-loop-row
returns-after-loop-row c = search (no_row, rows_bottom)

pub returns-then-pointer-gt5 : goal.returns-then-pointer-gt5
returns-then-pointer-gt5 c = search seventh
