-- What a run prints, as text. Definitions only. Assumes nothing.
use Rattle.std.specs.Prelude.{ℕ, ◌+◌, ◌*◌, cond, ◌||◌, ltb, length, List, [], ◌++◌}
use mathlib.Core.List.{flat_map}
use Rattle.records.specs.Records.{Record, rows}
use Rattle.text_lines.specs.Lines.{report_line, record_line}

-- the lines of records
abbrev pub lines_of : List Record → List ℕ
lines_of rs = flat_map record_line rs

-- the lines of the first n records of a buffer
unfoldable pub record_lines : ℕ → List ℕ → List ℕ
record_lines n records = flat_map record_line (rows n records)

-- what a run prints: the line of its report, and one for each kept record in its order
unfoldable pub run_text : (answer found kept marked : ℕ) → List ℕ → List ℕ
run_text answer found kept marked records = report_line answer found kept marked ++ record_lines kept records

-- the same where the buffer's length leaves room for it and the kept records are lent, else nothing
unfoldable pub fitting_text : (room answer found kept marked : ℕ) → List ℕ → List ℕ
fitting_text room answer found kept marked records =
    cond (ltb room (80 + 200 * kept) || ltb (length records) (40 * kept)) [] (run_text answer found kept marked records)
