-- What the clauses of functions name. Assumes nothing.
use Rattle.std.specs.Prelude.{ℕ, List, ◌≡◌}
use Rattle.reads.specs.Reads.{Reads}
use Rattle.reads.specs.Runs.{value_of, marks_of}
use Rattle.records.specs.Records.{laid_out}
use Rattle.detector_verdict.specs.Verdict.{Numbers}
use Rattle.detector_search.specs.Search.{Result}

-- the search p, run over `words`, reports r, and takes the marks and the records from what they were to what they are
pub record Sought (p : Reads Result) (capacity : ℕ) (words marks records : List ℕ) (r : Numbers) (marks' records' : List ℕ) : Type 0 where
  pub counts : r ≡ (value_of p words).counts
  pub stored : records' ≡ laid_out capacity (value_of p words).records records
  pub marked : marks' ≡ marks_of p words marks
