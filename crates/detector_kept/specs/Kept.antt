-- The candidates that `detect` of detector.rs keeps, ranked. Definitions only. Assumes nothing.
use Rattle.std.specs.Prelude.{List, map}
use Rattle.records.specs.Records.{Record}
use Rattle.detector_kept.specs.Spread.{spread}
use Rattle.detector_kept.specs.Retain.{retain}
use Rattle.detector_variances.specs.Variances.{with_variance}
use Rattle.detector_rank.specs.Rank.{rank}

-- the candidates within the deviation, by their variance
unfoldable pub ranked : List Record → List Record
ranked rs = rank (map with_variance (retain (spread rs) rs))
