-- One search of a row in `find_concentric_circles` of detector.rs, as a reading program (docs/MANUAL.md, "How a search decides"). `valid` is the test of the
-- widths, the whole-number one or the source's in f32 (detector_widths/specs/). Definitions only. Assumes nothing.
use Rattle.std.specs.Prelude.{ℕ, ◌+◌, ◌-◌, ◌/◌, Bool, cond, List, ◌∷◌, ◌++◌, eqb, replicate, Option, Some, None, Ok, Err}
use Rattle.reads.specs.Reads.{Reads, done, ◌>>=◌}
use Rattle.records.specs.Records.{Record}
use Rattle.bit_matrix.specs.declared.Shape.{Shape}
use Rattle.detector_rows.specs.Rows.{next_bullseye_by}
use Rattle.detector_window.specs.declared.Bullseye.{Bullseye}
use Rattle.detector_columns.specs.Columns.{Verified, verify_bullseye_vertical_by}
use Rattle.detector_candidate.specs.declared.Searched.{Searched}

-- a candidate's record: centre, radius, the runs of its row and of its column; what later steps fill in is zero
unfoldable pub candidate_of : ℕ → Bullseye → List ℕ → Record
candidate_of row eye vertical = eye.center ∷ row ∷ eye.radius ∷ (eye.buckets ++ vertical ++ replicate 15 0)

-- no window: the row ends
abbrev pub nothing : Searched
nothing = record { candidate = None; next = None }

-- a bull's-eye: the next search starts at the column that closed its window
unfoldable pub passed : ℕ → Bullseye → List ℕ → Searched
passed row eye vertical = record { candidate = Some (candidate_of row eye vertical); next = Some (eye.center + eye.radius) }

-- a window and no bull's-eye: the next search starts a quarter of the radius, rounded down, right of the centre less the radius, which is the window's first
-- column, or for an odd sum of runs the one before it. If this search started there, the row ends.
unfoldable pub failed : ℕ → Bullseye → Searched
failed column eye =
    let next = eye.center - eye.radius + eye.radius / 4 in
    record { candidate = None; next = cond (eqb next column) None (Some next) }

-- what a window comes to, by the check of its column
abbrev pub judged : ℕ → ℕ → Bullseye → Verified → Searched
judged row column eye (Ok vertical) = passed row eye vertical
judged row column eye (Err vertical) = failed column eye

module _ (valid : List ℕ → Bool) (shape : Shape) (row column : ℕ) where
  -- the column of a window is looked at
  abbrev pub judge_by : Option Bullseye → Reads Searched
  judge_by None = done nothing
  judge_by (Some eye) = do
    tried ← verify_bullseye_vertical_by valid shape row eye.center
    done (judged row column eye tried)

  -- one search of a row, from a column on
  unfoldable pub search_by : Reads Searched
  search_by = do
    found ← next_bullseye_by valid shape row column
    judge_by found
