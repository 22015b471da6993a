-- What the clauses of functions name. Assumes nothing.
use Rattle.std.specs.Prelude.{ℕ, ◌*◌, ◌≤◌, ◌<◌, ◌≡◌, List, length, get_or}
use Rattle.reads.specs.Bits.{bit_at}
use Rattle.reads.specs.Reads.{Reads}
use Rattle.reads.specs.Runs.{value_of, marks_of}
use Rattle.bit_matrix.specs.declared.Shape.{Shape}
use Rattle.bit_matrix.specs.ShapeClauses.{Inside}
use Rattle.bit_matrix.specs.FlankedClauses.{Flanked}
use Rattle.records.specs.Fields as field
use Rattle.records.specs.Records.{Record, rows}
use Rattle.records.specs.RecordsClauses.{Became, Each}

-- what a kept record must be for its box: its centre lies inside the image, between black pixels of its row (every found one does, so it is asked with
-- the ellipse check off too), and its radius is from 6 to 2,047
pub record Boxable (shape : Shape) (words : List ℕ) (r : Record) : Type 0 where
  pub inside : Inside shape (get_or r field.center_x 0) (get_or r field.center_y 0)
  pub flanked : Flanked shape (bit_at words) (get_or r field.center_x 0) (get_or r field.center_y 0)
  pub least : 6 ≤ get_or r field.radius 0
  pub most : get_or r field.radius 0 < 2048

-- the first n records of a buffer are such records
pub record AllBoxable (shape : Shape) (words : List ℕ) (n : ℕ) (records : List ℕ) : Type 0 where
  pub held : 40 * n ≤ length records
  pub each : Each (Boxable shape words) (rows n records)

-- the steps p, run over the image's words, give the records that the first n have become, and take the marks from `marks` to `marks'`
pub record Boxed (p : Reads (List Record)) (n : ℕ) (words marks records marks' records' : List ℕ) : Type 0 where
  pub stored : Became n records (value_of p words) records'
  pub marked : marks' ≡ marks_of p words marks
