-- A run is one call of an entry that searches, with the ellipse check on or off. What it reports and leaves in the lent buffers, for every input:
-- docs/MANUAL.md, "The crop file" and "Answers". The search's definition is `search_at`, the first true number is `words_refusal` or `file_refusal`.
-- Definitions only. Assumes nothing.
use Rattle.std.specs.Prelude.{ℕ, Bool, List, length}
use Rattle.reads.specs.Reads.{Reads}
use Rattle.reads.specs.Bits.{zeros}
use Rattle.reads.specs.Runs.{value_of, marks_of}
use Rattle.bit_matrix.specs.declared.Shape.{Shape}
use Rattle.bit_matrix.specs.Shape.{shape_of}
use Rattle.marks.specs.Marks.{ones_of}
use Rattle.crop.specs.Crop.{file_shape, image, words_refusal, file_refusal, refused_or}
use Rattle.records.specs.Records.{capacity_of, laid_out}
use Rattle.detector_verdict.specs.Verdict.{Numbers}
use Rattle.detector_search.specs.Search.{Result, search_at}
use Rattle.detector.specs.declared.Report.{Report}

-- what a run reports, and the lent buffers afterwards
pub record Run : Type 0 where
  pub report : Report
  pub records : List ℕ
  pub marks : List ℕ

abbrev pub run : Report → List ℕ → List ℕ → Run
run r records marks = record { report = r; records = records; marks = marks }

-- the report of a search with these counts, after which n bits are marked
abbrev pub report_of : Numbers → ℕ → Report
report_of c n = record { answer = c.answer; found = c.found; kept = c.kept; marked = n }

-- the report of a refusal: the counts are 0
abbrev pub refused_report : ℕ → Report
refused_report n = record { answer = n; found = 0; kept = 0; marked = 0 }

-- the steps of a search of an image, with a record buffer of n words and the ellipse check on or off
abbrev pub steps : Shape → ℕ → Bool → Reads Result
steps shape n ellipse = search_at (record { shape = shape; capacity = capacity_of n; ellipse = ellipse })

-- accepted: the steps from cleared marks; the kept records, zeros up to the capacity, and the words beyond as they were
unfoldable pub accepted_run : Shape → List ℕ → List ℕ → Bool → Run
accepted_run shape words records ellipse =
    let result = value_of (steps shape (length records) ellipse) words in
    let marks = marks_of (steps shape (length records) ellipse) words (zeros (length words)) in
    run (report_of result.counts (ones_of marks)) (laid_out (capacity_of (length records)) result.records records) marks

-- an image in words: a refusal changes no buffer
unfoldable pub words_run : List ℕ → ℕ → ℕ → List ℕ → List ℕ → Bool → Run
words_run words w h records marks ellipse =
    refused_or (words_refusal words w h (length marks) (length records)) (λ n. run (refused_report n) records marks)
    (accepted_run (shape_of w h) words records ellipse)

-- the same with the words to unpack into
pub record FileRun : Type 0 where
  pub words : List ℕ
  pub run : Run

abbrev pub filed : List ℕ → Run → FileRun
filed words r = record { words = words; run = r }

-- a crop file: its words are unpacked when it is accepted
unfoldable pub file_run : List ℕ → List ℕ → List ℕ → List ℕ → Bool → FileRun
file_run file words records marks ellipse =
    refused_or (file_refusal file (length words) (length marks) (length records)) (λ n. filed words (run (refused_report n) records marks))
    (filed (image file) (accepted_run (file_shape file) (image file) records ellipse))
