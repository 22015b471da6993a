-- What the clauses of functions name: the check with the test in whole numbers. With the source's in f32 results and reads are the same: `same_vertical_f32`,
-- ColumnsLaws.antt. Assumes nothing.
use Rattle.std.specs.Prelude.{ℕ}
use Rattle.reads.specs.Reads.{Reads}
use Rattle.bit_matrix.specs.declared.Shape.{Shape}
use Rattle.detector_widths.specs.Widths.{valid_widths}
use Rattle.detector_columns.specs.Columns.{Verified, try_column_by, verify_bullseye_vertical_by}

abbrev pub try_column : Shape → ℕ → ℕ → Reads Verified
try_column = try_column_by valid_widths

abbrev pub verify_bullseye_vertical : Shape → ℕ → ℕ → Reads Verified
verify_bullseye_vertical = verify_bullseye_vertical_by valid_widths
