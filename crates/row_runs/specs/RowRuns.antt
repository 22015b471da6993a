-- `find_next_bullseye_horizontal` of detector.rs said over the colour runs of a row: what a window is, and which one the search is to answer. Nothing is
-- scanned, and nothing is read. Definitions only. Assumes nothing.
use Rattle.std.specs.Prelude.{ℕ, ◌+◌, ◌-◌, ◌<◌, Bool, true, false, cond, ◌≡◌, List, [], ◌∷◌, map, length, get_or, take, drop, Option, Some, None}
use Rattle.std.specs.Bool.{beq}
use Rattle.reads.specs.Bits.{range}
use Rattle.detector_widths.specs.Widths.{valid_widths}
use Rattle.detector_window.specs.declared.Bullseye.{Bullseye}
use Rattle.detector_window.specs.Window.{metadata}

-- ---- the colour runs of columns, black as true

-- columns of one colour: the colour, the first of them, and how many they are
pub record ColourRun : Type 0 where
  pub colour : Bool
  pub first : ℕ
  pub length : ℕ

-- a run before others: one run with the first of them, where that has its colour, or a run by itself
unfoldable pub put_before : ColourRun → List ColourRun → List ColourRun
put_before r [] = r ∷ []
put_before r (s ∷ rs) =
    cond (beq r.colour s.colour)
    (record { colour = r.colour; first = r.first; length = r.length + s.length } ∷ rs)
    (r ∷ s ∷ rs)

-- a column as a run of its own
abbrev pub one_column : (ℕ → Bool) → ℕ → ColourRun
one_column black x = record { colour = black x; first = x; length = 1 }

-- the runs of columns that follow each other
unfoldable pub colour_runs : (ℕ → Bool) → List ℕ → List ColourRun
colour_runs black [] = []
colour_runs black (x ∷ xs) = put_before (one_column black x) (colour_runs black xs)

-- the columns from one to before another
abbrev pub columns : ℕ → ℕ → List ℕ
columns from end = range from (end - from)

-- the columns from the first black one on
unfoldable pub from_first_black : (ℕ → Bool) → List ℕ → List ℕ
from_first_black black [] = []
from_first_black black (x ∷ xs) = cond (black x) (x ∷ xs) (from_first_black black xs)

-- the runs of a row, up to its right edge, from its first black pixel at or after the start
abbrev pub runs_from_black : (ℕ → Bool) → ℕ → ℕ → List ColourRun
runs_from_black black start width = colour_runs black (from_first_black black (columns start width))

-- ---- windows

-- the run at a place of the list; past the last an empty one, which is no run of a row
abbrev pub run_at : List ColourRun → ℕ → ColourRun
run_at rs k = get_or rs k (record { colour = false; first = 0; length = 0 })

abbrev pub lengths : List ColourRun → List ℕ
lengths rs = map (λ r. r.length) rs

-- The runs begin with a window: eleven runs, the first one black, which pass the width test, and after them a white pixel below the limit, the first of
-- the next run. The limit is the width less six.
pub record Opens (limit : ℕ) (rs : List ColourRun) : Type 0 where
  pub black : (run_at rs 0).colour ≡ true
  pub passes : valid_widths (lengths (take 11 rs)) ≡ true
  pub followed : 11 < length rs
  pub white : (run_at rs 11).colour ≡ false
  pub below : (run_at rs 11).first < limit

-- eleven runs from place k on are a window
abbrev pub Window : ℕ → List ColourRun → ℕ → Type 0
Window limit rs k = Opens limit (drop k rs)

-- the leftmost window
pub record Leftmost (limit : ℕ) (rs : List ColourRun) (k : ℕ) : Type 0 where
  pub window : Window limit rs k
  pub none_before : (j : ℕ) → j < k → ¬ Window limit rs j

-- the column of the pixel that closes the window at place k
abbrev pub closing_column : List ColourRun → ℕ → ℕ
closing_column rs k = (run_at (drop k rs) 11).first

-- the window's bull's-eye
abbrev pub eye_at : List ColourRun → ℕ → Bullseye
eye_at rs k = metadata (lengths (take 11 (drop k rs))) (closing_column rs k)

-- what a search is to answer: none, where there is no window, and the leftmost one elsewhere
pub data RowAnswer (limit : ℕ) (rs : List ColourRun) (found : Option Bullseye) : Type 0 where
  nowhere : ((k : ℕ) → ¬ Window limit rs k) → found ≡ None → RowAnswer limit rs found
  leftmost : (k : ℕ) → Leftmost limit rs k → found ≡ Some (eye_at rs k) → RowAnswer limit rs found
