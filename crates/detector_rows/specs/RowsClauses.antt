-- What the clauses of functions name: the search with the test in whole numbers. With the source's in f32 results and reads are the same: `same_rows_f32`,
-- RowsLaws.antt. Assumes nothing.
use Rattle.std.specs.Prelude.{ℕ, Option}
use Rattle.reads.specs.Reads.{Reads}
use Rattle.bit_matrix.specs.declared.Shape.{Shape}
use Rattle.detector_widths.specs.Widths.{valid_widths}
use Rattle.detector_window.specs.declared.Bullseye.{Bullseye}
use Rattle.detector_rows.specs.Rows.{next_bullseye_by}

abbrev pub next_bullseye : Shape → ℕ → ℕ → Reads (Option Bullseye)
next_bullseye = next_bullseye_by valid_widths
