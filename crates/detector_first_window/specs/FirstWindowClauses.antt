-- What the clauses of functions name: the window with the test in whole numbers, and what the sweep that marks nothing is to find. Assumes nothing.
use Rattle.std.specs.Prelude.{ℕ, ◌+◌, ◌-◌, ◌*◌, ◌≤◌, Bool, true, ◌≡◌, List, length, replicate, Option, Some, None}
use Rattle.reads.specs.Bits.{range, mark_all}
use Rattle.reads.specs.Reads.{Reads}
use Rattle.reads.specs.RunsClauses.{Ran}
use Rattle.bit_matrix.specs.declared.Shape.{Shape}
use Rattle.detector_widths.specs.Widths.{valid_widths}
use Rattle.detector_window.specs.declared.Bullseye.{Bullseye}
use Rattle.detector_first_window.specs.FirstWindow.{window_by}

abbrev pub window_from : Shape → ℕ → ℕ → ℕ → Bool → ℕ → List ℕ → Reads (Option Bullseye)
window_from = window_by valid_widths

-- the column after the last that a sweep reads: it reads the one that closes the window
abbrev pub read_to : ℕ → Option Bullseye → ℕ
read_to limit None = limit
read_to limit (Some eye) = eye.center + eye.radius + 1

-- what the sweep from `from` on finds; the columns from there to before `read_to` are what it reads
pub record Swept (words : List ℕ) (shape : Shape) (row from limit : ℕ) (found : Option Bullseye) : Type 0 where
  pub within : read_to limit found ≤ limit
  pub ran : (marks : List ℕ) → length marks ≡ length words
      → Ran (window_from shape row (limit - from) from true 0 (replicate 11 0)) words marks found
      (mark_all marks (range (row * shape.row_words * 64 + from) (read_to limit found - from)))
