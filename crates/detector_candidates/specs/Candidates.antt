-- `find_concentric_circles` of detector.rs as a reading program (docs/MANUAL.md, "How a search decides"). `valid` is the test of the
-- widths, the whole-number one or the source's in f32 (detector_widths/specs/). Definitions only. Assumes nothing.
use Rattle.std.specs.Prelude.{ℕ, zero, suc, ◌+◌, ◌-◌, Bool, cond, List, [], ◌∷◌, ◌++◌, ltb, length, Option, Some, None}
use Rattle.reads.specs.Reads.{Reads, done, ◌>>=◌}
use Rattle.records.specs.Records.{Record}
use Rattle.bit_matrix.specs.declared.Shape.{Shape}
use Rattle.detector_widths.specs.Widths.{valid_widths}
use Rattle.detector_candidate.specs.Candidate.{search_by}

-- the candidates after a search, by the one that it found, if it found one
abbrev pub after : List Record → Option Record → List Record
after circles None = circles
after circles (Some candidate) = circles ++ candidate ∷ []

-- the row goes on where the next search starts, or ends
abbrev pub row_on : Option ℕ → List Record → (ℕ → Reads (List Record)) → Reads (List Record)
row_on None circles rest = done circles
row_on (Some column) circles rest = rest column

-- the sweep, over at most `capacity` candidates and the one after them, which ends it
module _ (valid : List ℕ → Bool) (shape : Shape) (capacity : ℕ) where
  -- The row from a column on, `circles` being the candidates so far. Each search starts further to the right, so that the width is enough fuel.
  unfoldable pub row_by : ℕ → ℕ → ℕ → List Record → Reads (List Record)
  row_by zero row column circles = done circles
  row_by (suc n) row column circles = do
    s ← search_by valid shape row column
    let now = after circles s.candidate
    cond (ltb capacity (length now)) (done now) (row_on s.next now (λ further. row_by n row further now))

  -- every second row, below the height less six; the height is more than enough fuel
  unfoldable pub rows_by : ℕ → ℕ → List Record → Reads (List Record)
  rows_by zero row circles = done circles
  rows_by (suc n) row circles =
      cond (ltb row (shape.height - 6))
      (do
        now ← row_by shape.width row 6 circles
        cond (ltb capacity (length now)) (done now) (rows_by n (row + 2) now))
      (done circles)

  unfoldable pub concentric_circles_by : Reads (List Record)
  concentric_circles_by = rows_by shape.height 6 []

-- with the test in whole numbers; with the source's in f32 results and reads are the same: `same_sweep_f32`, CandidatesLaws.antt
abbrev pub concentric_circles : Shape → ℕ → Reads (List Record)
concentric_circles = concentric_circles_by valid_widths
