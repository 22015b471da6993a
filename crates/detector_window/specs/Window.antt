-- `get_bullseye_metadata` of detector.rs: a window of eleven runs. Definitions only. Assumes nothing.
use Rattle.std.specs.Prelude.{ℕ, ◌+◌, ◌-◌, ◌/◌, List, [], ◌∷◌, ◌++◌, drop}
use Rattle.reads.specs.Total.{total}
use Rattle.detector_window.specs.declared.Bullseye.{Bullseye}

-- half the sum of the runs, a half up
abbrev pub radius_of : List ℕ → ℕ
radius_of buckets = (total buckets + 1) / 2

-- of a window that closed at a column
unfoldable pub metadata : List ℕ → ℕ → Bullseye
metadata buckets column = record { center = column - radius_of buckets; radius = radius_of buckets; buckets = buckets }

-- the first run dropped, and the pixel at hand as the first of a new last one
abbrev pub without_first : List ℕ → List ℕ
without_first buckets = drop 1 buckets ++ 1 ∷ []
