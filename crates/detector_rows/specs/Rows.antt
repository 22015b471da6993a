-- `find_next_bullseye_horizontal` of detector.rs as a reading program, read pixel by pixel.
-- `valid` is the test of the widths, the whole-number one or the source's in f32 (detector_widths/specs/). Definitions only. Assumes nothing.
use Rattle.std.specs.Prelude.{ℕ, zero, suc, ◌+◌, ◌-◌, Bool, true, cond, List, replicate, Option}
use Rattle.reads.specs.Reads.{Reads, done, ◌>>=◌}
use Rattle.bit_matrix.specs.declared.Shape.{Shape}
use Rattle.bit_matrix.specs.Pixels.{pixel}
use Rattle.detector_window.specs.declared.Bullseye.{Bullseye}
use Rattle.detector_first_window.specs.FirstWindow.{window_by}

module _ (shape : Shape) (row : ℕ) where
  -- From a column, over at most n white pixels: the column of the first black one, or the column n further on, read too, whatever its colour.
  unfoldable pub skip_white : ℕ → ℕ → Reads ℕ
  skip_white zero column = do
    _ ← pixel shape column row
    done column
  skip_white (suc n) column = do
    black ← pixel shape column row
    cond black (done column) (skip_white n (column + 1))

-- `find_next_bullseye_horizontal`: leading white is skipped, and then the runs are counted, in columns below the width less six
unfoldable pub next_bullseye_by : (List ℕ → Bool) → Shape → ℕ → ℕ → Reads (Option Bullseye)
next_bullseye_by valid shape row start = do
  first ← skip_white shape row (shape.width - 6 - start) start
  window_by valid shape row (shape.width - 6 - first) first true 0 (replicate 11 0)
