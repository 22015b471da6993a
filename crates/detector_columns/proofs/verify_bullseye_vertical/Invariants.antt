-- `detector_columns::verify_bullseye_vertical` meets its contract. The invariant: the columns left are tried as the definition tries them.
use Rattle.std.proofs.Common.{ℕ, List, drop}
use Rattle.reads.specs.RunsClauses.{Resumes}
use Rattle.bit_matrix.specs.declared.BitMatrix.{BitMatrix}
use Rattle.bit_matrix.specs.ImageClauses.{Kept}
use Rattle.detector_widths.specs.Widths.{valid_widths}
use Rattle.detector_columns.specs.Columns.{try_columns_by}
use Rattle.detector_columns.specs.ColumnsClauses.{verify_bullseye_vertical}
use Rattle.detector_columns.proofs.verify_bullseye_vertical.Given as goal

-- with the runs of the last column tried, and these columns left
pub record Trying (before : BitMatrix) (row column : ℕ) (image : BitMatrix) (last left : List ℕ) : Type 0 where
  pub kept : Kept before image
  pub resumes : Resumes before.words.now
      (try_columns_by valid_widths before.shape row last left) image.marks.now (verify_bullseye_vertical before.shape row column) before.marks.now

abbrev pub invariant-loop-column : goal.invariant-loop-column
invariant-loop-column l = Trying l.initial.image l.row l.column l.image l.last (drop l.column-index l.column-items)
