-- What the clauses of functions name. Assumes nothing.
use Rattle.std.specs.Prelude.{ℕ, ◌+◌, ◌*◌, ◌≤◌, List, ◌≡◌, length}
use Rattle.records.specs.Records.{Record, rows, laid_out}
use Rattle.records.specs.RecordsClauses.{Each}
use Rattle.detector_variances.specs.VariancesClauses.{Small}
use Rattle.detector_verdict.specs.Verdict.{Numbers, verdict}

-- what `verdict` may assume of the buffer: room for the capacity, at most one candidate more, and small words in those that it holds
pub record Judgeable (capacity found : ℕ) (records : List ℕ) : Type 0 where
  pub most : capacity ≤ 1024
  pub held : 40 * capacity ≤ length records
  pub few : found ≤ capacity + 1
  pub small : found ≤ capacity → Each Small (rows found records)

-- so many candidates were found, and the buffer holds them, unless there is one too many
pub record Holds (capacity found : ℕ) (records : List ℕ) (candidates : List Record) : Type 0 where
  pub counted : found ≡ length candidates
  pub stored : found ≤ capacity → rows found records ≡ candidates

-- the counts, and the buffer afterwards: the kept records, zeros up to the capacity, and the rest as it was
pub record Judged (capacity : ℕ) (candidates : List Record) (before : List ℕ) (r : Numbers) (after : List ℕ) : Type 0 where
  pub counts : r ≡ (verdict capacity candidates).counts
  pub laid : after ≡ laid_out capacity (verdict capacity candidates).kept before
  -- so the next step need not take `flat` apart
  pub records : rows r.kept after ≡ (verdict capacity candidates).kept
