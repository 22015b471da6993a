-- `detector_columns::verify_bullseye_vertical` meets its contract: the calls' runs, one after the other.
use Rattle.std.proofs.Common.{ℕ, ◌+◌, ◌≤◌, ◌<◌, ◌≡◌, List, [], ◌∷◌, Ok, Err, length, get_or, drop, add-one, drop-cons, drop_of_length-le}
use Rattle.reads.specs.RunsClauses.{Resumes}
use Rattle.reads.proofs.RunsLaws.{ran_done, resumes_step, resumes_end}
use Rattle.bit_matrix.specs.declared.BitMatrix.{BitMatrix}
use Rattle.bit_matrix.specs.ImageClauses.{RanOn}
use Rattle.bit_matrix.proofs.ImageLaws.{kept_on, onto}
use Rattle.detector_widths.specs.Widths.{valid_widths}
use Rattle.detector_columns.specs.Columns.{Verified, or_else, try_columns_by}
use Rattle.detector_columns.specs.ColumnsClauses.{try_column, verify_bullseye_vertical}
use Rattle.detector_columns.proofs.verify_bullseye_vertical.Invariants.{Trying}
use Rattle.detector_columns.proofs.verify_bullseye_vertical.Goals as goal

-- at the i-th of the columns
module _ {before image : BitMatrix} {row start : ℕ} {last : List ℕ} (columns : List ℕ) (i : ℕ) (more : i < length columns)
    (trying : Trying before row start image last (drop i columns)) where
  turn : {after : BitMatrix} {tried : Verified} → RanOn (try_column image.shape row (get_or columns i 0)) image tried after
      → Resumes before.words.now (or_else tried (λ runs. try_columns_by valid_widths before.shape row runs (drop (i + 1) columns))) after.marks.now
      (verify_bullseye_vertical before.shape row start) before.marks.now
  unfolding try_columns_by
  turn ran =
      let first : drop i columns ≡ get_or columns i 0 ∷ drop (i + 1) columns = rw (add-one, drop-cons columns i 0) in
      resumes_step _ (onto (λ shape. try_column shape row (get_or columns i 0)) trying.kept ran) (rw first at trying.resumes)

  passes : {after : BitMatrix} {runs : List ℕ} → RanOn (try_column image.shape row (get_or columns i 0)) image (Ok runs) after
      → RanOn (verify_bullseye_vertical before.shape row start) before (Ok runs) after
  passes ran = record { kept = kept_on trying.kept ran.kept; ran = resumes_end (ran_done _) (turn ran) }

  fails : {after : BitMatrix} {runs : List ℕ} → RanOn (try_column image.shape row (get_or columns i 0)) image (Err runs) after
      → Trying before row start after runs (drop (i + 1) columns)
  fails ran = record { kept = kept_on trying.kept ran.kept; resumes = turn ran }

ended : {before image : BitMatrix} {row start : ℕ} {last : List ℕ} (columns : List ℕ) (i : ℕ) → length columns ≤ i
    → Trying before row start image last (drop i columns) → RanOn (verify_bullseye_vertical before.shape row start) before (Err last) image
unfolding try_columns_by
ended columns i all trying =
    let none : drop i columns ≡ [] = drop_of_length-le columns all in
    record { kept = trying.kept; ran = resumes_end (ran_done _) (rw none at trying.resumes) }

pub returns-in-Ok : goal.returns-in-Ok
returns-in-Ok c = passes _ _ c.loop-column-test.true c.loop-column.invariant c.in-Ok.ensures

pub loop-column-preserved : goal.loop-column-preserved
loop-column-preserved c = fails _ _ c.loop-column-test.true c.loop-column.invariant c.in-Err.ensures

pub returns : goal.returns
returns c = ended _ _ c.loop-column-test.false c.loop-column.invariant
