-- How many words the program lends to unpack a file into, and for the marks; and what it prints. Definitions only. Assumes nothing.
use Rattle.std.specs.Prelude.{ℕ, false, cond, List, eqb, replicate}
use Rattle.crop.specs.Crop.{refusal, file_words}
use Rattle.text_run.specs.RunText.{run_text}
use Rattle.detector.specs.Detector.{Run, file_run}

-- those of the image, or none where the file is refused
unfoldable pub lent_words : List ℕ → ℕ
lent_words file = cond (eqb (refusal file) 0) (file_words file) 0

-- the report and the kept records of a run as text
abbrev pub text_of : Run → List ℕ
text_of left = let r = left.report in run_text r.answer r.found r.kept r.marked left.records

-- what is printed of an input: the text of its run, with room for 400 records, from buffers of zeros, without the ellipse check
unfoldable pub printed : List ℕ → List ℕ
printed input = let lent : List ℕ = replicate (lent_words input) 0 in text_of (file_run input lent (replicate 16000 0) lent false).run
