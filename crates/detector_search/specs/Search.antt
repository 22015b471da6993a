-- The steps of a search as one reading program of its setting: the sweep, the verdict, and the box and turn of each kept record in rank
-- order. Definitions only. Assumes nothing.
use Rattle.std.specs.Prelude.{List}
use Rattle.reads.specs.Reads.{Reads, done, ◌>>=◌}
use Rattle.records.specs.Records.{Record}
use Rattle.detector_candidates.specs.Candidates.{concentric_circles}
use Rattle.detector_verdict.specs.Verdict.{Numbers, verdict}
use Rattle.detector_boxes.specs.Boxing.{boxed_all}
use Rattle.detector_search.specs.declared.Setting.{Setting}

-- what a search gives: its answer and counts, and the kept records
pub record Result : Type 0 where
  pub counts : Numbers
  pub records : List Record

unfoldable pub search_at : Setting → Reads Result
search_at setting = do
  candidates ← concentric_circles setting.shape setting.capacity
  let judged = verdict setting.capacity candidates
  records ← boxed_all setting.ellipse setting.shape judged.kept
  done (record { counts = judged.counts; records = records })
