-- The first window of a row from a column on whose widths pass, for `find_next_bullseye_horizontal` of detector.rs, as a reading program, read pixel by pixel.
-- `valid` is the test of the widths, the whole-number one or the source's in f32 (detector_widths/specs/). Definitions only. Assumes nothing.
use Rattle.std.specs.Prelude.{ℕ, zero, suc, ◌+◌, Bool, not, cond, ◌&&◌, List, ltb, Option, Some, None}
use Rattle.std.specs.Bool.{beq}
use Rattle.reads.specs.Reads.{Reads, done, ◌>>=◌}
use Rattle.bit_matrix.specs.declared.Shape.{Shape}
use Rattle.bit_matrix.specs.Pixels.{pixel}
use Rattle.detector_widths.specs.Buckets.{bump}
use Rattle.detector_window.specs.declared.Bullseye.{Bullseye}
use Rattle.detector_window.specs.Window.{metadata, without_first}

module _ (valid : List ℕ → Bool) (shape : Shape) (row : ℕ) where
  -- With n columns left, in run `pointer`, of colour `last` (true for black): a change of colour begins the next run, and after the eleventh it
  -- closes the window where the runs pass and the pixel is white, or drops the first run.
  unfoldable pub window_by : ℕ → ℕ → Bool → ℕ → List ℕ → Reads (Option Bullseye)
  window_by zero column last pointer buckets = done None
  window_by (suc n) column last pointer buckets = do
    black ← pixel shape column row
    cond (beq black last)
        (window_by n (column + 1) last pointer (bump buckets pointer))
        (cond (ltb pointer 10)
        (window_by n (column + 1) black (pointer + 1) (bump buckets (pointer + 1)))
        (cond (valid buckets && not black)
        (done (Some (metadata buckets column)))
        (window_by n (column + 1) black pointer (without_first buckets))))
