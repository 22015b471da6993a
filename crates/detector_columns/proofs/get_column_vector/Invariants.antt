-- `detector_columns::get_column_vector` meets its contract. The invariant is `Looking`: from the present row, what is left of the definition ends as the
-- whole does, and a run has room for the rows left. The measure is the rows left.
use Rattle.std.proofs.Common.{ℕ, ◌+◌, ◌≤◌, ◌≡◌, Bool, List, length}
use Rattle.reads.specs.RunsClauses.{Resumes}
use Rattle.bit_matrix.specs.declared.BitMatrix.{BitMatrix}
use Rattle.bit_matrix.specs.ImageClauses.{Kept}
use Rattle.detector_widths.specs.Widths.{at}
use Rattle.detector_columns.specs.declared.Direction.{Direction}
use Rattle.detector_columns.specs.Columns.{rows_left, vector_from, column_vector}
use Rattle.detector_columns.proofs.get_column_vector.Given as goal

-- ---- the invariant, and a turn and the ends of the walk against the definition
pub record Looking (before : BitMatrix) (column start : ℕ) (direction : Direction)
    (image : BitMatrix) (buckets : List ℕ) (row : ℕ) (last : Bool) (pointer : ℕ) : Type 0 where
  pub kept : Kept before image
  pub six : length buckets ≡ 6
  pub within : pointer ≤ 5
  pub room : (k : ℕ) → at buckets k + rows_left direction before.shape.height row ≤ before.shape.height
  pub resumes : Resumes before.words.now
      (vector_from before.shape column direction (rows_left direction before.shape.height row) row last pointer buckets) image.marks.now
      (column_vector before.shape column start direction) before.marks.now

abbrev pub invariant-loop-row : goal.invariant-loop-row
invariant-loop-row l = Looking l.initial.image l.column l.start_row l.direction l.image l.buckets l.row l.last_color l.pointer

abbrev pub decreases-loop-row : goal.decreases-loop-row
decreases-loop-row l = rows_left l.direction l.initial.image.shape.height l.row
