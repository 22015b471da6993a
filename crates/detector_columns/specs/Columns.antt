-- The vertical check of detector.rs (docs/MANUAL.md, "How a search decides"), as reading programs.
-- `valid` is the test of the widths, the whole-number one or the source's in f32 (detector_widths/specs/). Definitions only. Assumes nothing.
use Rattle.std.specs.Prelude.{ℕ, zero, suc, ◌+◌, ◌-◌, Bool, false, cond, List, [], ◌∷◌, ltb, replicate, Result, Ok, Err}
use Rattle.std.specs.Bool.{beq}
use Rattle.reads.specs.Reads.{Reads, done, ◌>>=◌}
use Rattle.bit_matrix.specs.declared.Shape.{Shape}
use Rattle.bit_matrix.specs.Pixels.{pixel}
use Rattle.detector_widths.specs.Buckets.{bump}
use Rattle.detector_widths.specs.Widths.{at}
use Rattle.detector_columns.specs.declared.Direction.{Direction}
use Rattle.detector_columns.specs.declared.Direction.TheVariants.{Up, Down}

-- ---- `get_column_vector`
-- the run that a pixel belongs to: the present one, or the next where the colour changes
abbrev pub pointer_after : ℕ → Bool → Bool → ℕ
pointer_after pointer black last = cond (beq black last) pointer (pointer + 1)

-- the row looked at after a row
abbrev pub row_after : ℕ → Direction → ℕ
row_after row Up = row + 1
row_after row Down = row - 1

-- how many rows can be looked at from a row on, up to the last row or down to row 1: none from row 0 or from outside
unfoldable pub rows_left : Direction → ℕ → ℕ → ℕ
rows_left Up height row = cond (ltb 0 row) (height - row) 0
rows_left Down height row = cond (ltb row height) row 0

module _ (shape : Shape) (column : ℕ) (direction : Direction) where
  -- with n rows left. The pixel that opens a seventh run is read, and ends the count.
  unfoldable pub vector_from : ℕ → ℕ → Bool → ℕ → List ℕ → Reads (List ℕ)
  vector_from zero row last pointer buckets = done buckets
  vector_from (suc n) row last pointer buckets = do
    black ← pixel shape column row
    let next = pointer_after pointer black last
    cond (ltb 5 next) (done buckets) (vector_from n (row_after row direction) black next (bump buckets next))

-- six runs, white first
unfoldable pub column_vector : Shape → ℕ → ℕ → Direction → Reads (List ℕ)
column_vector shape column start_row direction =
    vector_from shape column direction (rows_left direction shape.height start_row) start_row false 0 (replicate 6 0)

-- ---- `build_potential_bullsey_array`
-- the first vector backwards, then the second; their first runs are one, run 5
abbrev pub potential_bullseye_array : List ℕ → List ℕ → List ℕ
potential_bullseye_array v w = at v 5 ∷ at v 4 ∷ at v 3 ∷ at v 2 ∷ at v 1 ∷ (at v 0 + at w 0) ∷ at w 1 ∷ at w 2 ∷ at w 3 ∷ at w 4 ∷ at w 5 ∷ []

-- ---- `verify_bullseye_vertical`
module _ (shape : Shape) (row : ℕ) where
  -- the eleven runs of a column: up is read first, and stands last
  unfoldable pub potential_bullseye : ℕ → Reads (List ℕ)
  potential_bullseye column = do
    up ← column_vector shape column row Up
    down ← column_vector shape column row Down
    done (potential_bullseye_array down up)

-- the runs of a column: `Ok` if they pass
abbrev pub Verified : Type 0
Verified = Result (List ℕ) (List ℕ)

-- what has passed, or what comes later, by the runs that did not
abbrev pub or_else : Verified → (List ℕ → Reads Verified) → Reads Verified
or_else (Ok runs) later = done (Ok runs)
or_else (Err runs) later = later runs

module _ (valid : List ℕ → Bool) (shape : Shape) (row : ℕ) where
  -- the check of one column
  unfoldable pub try_column_by : ℕ → Reads Verified
  try_column_by column = do
    buckets ← potential_bullseye shape row column
    done (cond (valid buckets) (Ok buckets) (Err buckets))

  -- columns one after the other, until one passes; `last` are the runs of the last one tried, which stand where none passes
  unfoldable pub try_columns_by : List ℕ → List ℕ → Reads Verified
  try_columns_by last [] = done (Err last)
  try_columns_by last (column ∷ columns) = do
    tried ← try_column_by column
    or_else tried (λ runs. try_columns_by runs columns)

  -- a column, then the next, then the one before
  abbrev pub verify_bullseye_vertical_by : ℕ → Reads Verified
  verify_bullseye_vertical_by column = try_columns_by (replicate 11 0) (column ∷ (column + 1) ∷ (column - 1) ∷ [])
