-- `detector::search_accepted` meets its contract: the marks cleared, the search run from there, and the marks counted.
use Rattle.std.proofs.Common.{ℕ, arith, Bool, List, ◌≡◌, ap, ap₂, ◌∙◌, length}
use Rattle.reads.specs.Bits.{zeros}
use Rattle.reads.specs.Runs.{value_of, marks_of}
use Rattle.bit_matrix.specs.declared.Shape.{Shape}
use Rattle.bit_matrix.specs.ShapeClauses.{Image}
use Rattle.marks.specs.Marks.{ones_of}
use Rattle.records.specs.Records.{capacity_of, laid_out}
use Rattle.detector_candidates.specs.CandidatesClauses.{Room}
use Rattle.detector_verdict.specs.Verdict.{Numbers}
use Rattle.detector_search.specs.Search.{search_at}
use Rattle.detector_search.specs.SearchClauses.{Sought}
use Rattle.detector.specs.Detector.{run, report_of, steps, accepted_run}
use Rattle.detector.specs.declared.Report.{Report}
use Rattle.detector.proofs.search_accepted.Goals as goal

-- the capacity that the record buffer gives
room_of : {records : List ℕ} {capacity : ℕ} → capacity ≡ capacity_of (length records) → Room capacity records 0
room_of is = record { few = omega arith; most = omega (arith, is); held = omega (arith, is) }

-- the marks cleared, the search run from there, and the marks counted
accepted_by : (shape : Shape) (ellipse : Bool) {words marks cleared records marks' records' : List ℕ} {capacity n : ℕ} {c : Numbers} {r : Report}
    → Image shape words marks
    → cleared ≡ zeros (length marks) → capacity ≡ capacity_of (length records)
    → Sought (search_at (record { shape = shape; capacity = capacity; ellipse = ellipse })) capacity words cleared records c marks' records'
    → n ≡ ones_of marks' → r ≡ report_of c n
    → run r records' marks' ≡ accepted_run shape words records ellipse
unfolding accepted_run
accepted_by shape ellipse {words} {marks} {cleared} {records} {marks'} {records'} {capacity} {n} {c} {r} image clear room sought counted made =
    let full : Sought (steps shape (length records) ellipse) (capacity_of (length records)) words cleared records c marks' records' = rw room at sought in
    let marked : marks' ≡ marks_of (steps shape (length records) ellipse) words (zeros (length words)) =
    full.marked ∙ ap (marks_of (steps shape (length records) ellipse) words) (clear ∙ ap zeros image.sized) in
    let report : r
    ≡ report_of (value_of (steps shape (length records) ellipse) words).counts
    (ones_of (marks_of (steps shape (length records) ellipse) words (zeros (length words)))) =
    made ∙ ap₂ report_of full.counts (counted ∙ ap ones_of marked) in
    ap₂ (λ (x : Report) (l : List ℕ). run x l marks') report full.stored
    ∙ ap (run _ (laid_out (capacity_of (length records)) (value_of (steps shape (length records) ellipse) words).records records)) marked

pub returns : goal.returns
returns c = search accepted_by
