-- What the clauses of functions name. Assumes nothing.
use Rattle.std.specs.Prelude.{ℕ, ◌*◌, ◌≤◌, min, ◌≡◌, List, length, take}
use Rattle.reads.specs.Reads.{Reads}
use Rattle.reads.specs.Runs.{value_of, marks_of}
use Rattle.records.specs.Records.{Record}
use Rattle.records.specs.RecordsClauses.{Became}
use Rattle.bit_matrix.specs.declared.Shape.{Shape}
use Rattle.detector_widths.specs.Widths.{valid_widths}
use Rattle.detector_candidates.specs.Candidates.{row_by, rows_by}

abbrev pub row_from : Shape → ℕ → ℕ → ℕ → ℕ → List Record → Reads (List Record)
row_from = row_by valid_widths

abbrev pub rows_from : Shape → ℕ → ℕ → ℕ → List Record → Reads (List Record)
rows_from = rows_by valid_widths

-- `count` candidates stand in a buffer that has room for the capacity, at most 1,024
pub record Room (capacity : ℕ) (records : List ℕ) (count : ℕ) : Type 0 where
  pub few : count ≤ capacity
  pub most : capacity ≤ 1024
  pub held : 40 * capacity ≤ length records

-- There are `count` candidates, and the first of them, up to the capacity, stand in the buffer; what is behind them is as it was.
pub record Stored (capacity : ℕ) (before : List ℕ) (circles : List Record) (count : ℕ) (records : List ℕ) : Type 0 where
  pub counted : count ≡ length circles
  pub written : Became (min count capacity) before (take capacity circles) records

-- The steps p, run over the image's words, give the candidates that are stored, and take the marks from `marks` to `marks'`.
pub record Listed (p : Reads (List Record)) (capacity : ℕ) (words marks records : List ℕ) (found : ℕ) (marks' records' : List ℕ) : Type 0 where
  pub stored : Stored capacity records (value_of p words) found records'
  pub marked : marks' ≡ marks_of p words marks
