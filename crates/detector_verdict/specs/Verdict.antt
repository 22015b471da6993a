-- The verdict on the sweep's candidates: the answer, the counts, and the kept candidates, ranked (docs/MANUAL.md, "Answers": 7, 8, 9 and 0).
-- Definitions only. Assumes nothing.
use Rattle.std.specs.Prelude.{ℕ, cond, List, [], ltb, eqb, length}
use Rattle.records.specs.Records.{Record}
use Rattle.detector_kept.specs.Kept.{ranked}
use Rattle.detector_verdict.specs.declared.Answer.{Answer}
use Rattle.detector_verdict.specs.declared.Answer.TheVariants.{Kept, TooMany, NoneFound, NoneKept}
use Rattle.detector_verdict.specs.declared.Counts.{Counts}

-- the numbers of a report
pub record Numbers : Type 0 where
  pub answer : ℕ
  pub found : ℕ
  pub kept : ℕ

-- the number of each answer
abbrev pub number_of : Answer → ℕ
number_of Kept = 0
number_of TooMany = 7
number_of NoneFound = 8
number_of NoneKept = 9

abbrev pub numbers_of : Counts → Numbers
numbers_of c = record { answer = number_of c.answer; found = c.found; kept = c.kept }

pub record Verdict : Type 0 where
  pub counts : Numbers
  pub kept : List Record

abbrev pub verdict_of : ℕ → List Record → List Record → Verdict
verdict_of answer candidates kept = record { counts = record { answer = answer; found = length candidates; kept = length kept }; kept = kept }

-- 7: more candidates than the capacity; 8: none; 9: all of them set aside; 0: some are kept
unfoldable pub verdict : ℕ → List Record → Verdict
verdict capacity candidates =
    cond (ltb capacity (length candidates)) (verdict_of 7 candidates [])
    (cond (eqb (length candidates) 0) (verdict_of 8 candidates [])
    (cond (eqb (length (ranked candidates)) 0) (verdict_of 9 candidates [])
    (verdict_of 0 candidates (ranked candidates))))
