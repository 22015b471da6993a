-- What the clauses of functions name. Assumes nothing.
use Rattle.std.specs.Prelude.{ℕ, ◌*◌, ◌≤◌, ◌≡◌, List, length, drop}
use Rattle.records.specs.Records.{rows, laid_out}
use Rattle.records.specs.RecordsClauses.{Each}
use Rattle.detector_variances.specs.VariancesClauses.{Small}
use Rattle.detector_kept.specs.declared.Spread.{Spread}
use Rattle.detector_kept.specs.Retain.{retain}
use Rattle.detector_kept.specs.Kept.{ranked}

-- The first `found` records are candidates: they fit the buffer, and their words are small.
pub record Candidates (found : ℕ) (records : List ℕ) : Type 0 where
  pub few : found ≤ 1024
  pub held : 40 * found ≤ length records
  pub small : Each Small (rows found records)

-- of the `found` candidates `kept` are ranked, and the buffer afterwards is theirs, with zeros up to the capacity
pub record KeptAndRanked (found capacity : ℕ) (before : List ℕ) (kept : ℕ) (after : List ℕ) : Type 0 where
  pub counted : kept ≡ length (ranked (rows found before))
  pub few : kept ≤ found
  pub written : after ≡ laid_out capacity (ranked (rows found before)) before
  -- so the next step need not take `flat` apart
  pub records : rows kept after ≡ ranked (rows found before)

-- The first `kept` records after are those retained of the `found` before, and the words beyond record `found` are as they were. What stands between is
-- left open: `keep_and_rank` clears it.
pub record Retained (found : ℕ) (s : Spread) (before : List ℕ) (kept : ℕ) (after : List ℕ) : Type 0 where
  pub counted : kept ≡ length (retain s (rows found before))
  pub few : kept ≤ found
  pub records : rows kept after ≡ retain s (rows found before)
  pub rest : drop (40 * found) after ≡ drop (40 * found) before
