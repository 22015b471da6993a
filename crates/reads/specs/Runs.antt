-- Runs of a reading program over an image's words and its marks. Definitions only. Assumes nothing.
use Rattle.std.specs.Prelude.{ℕ, List}
use Rattle.reads.specs.Reads.{Reads, value, trace}
use Rattle.reads.specs.Bits.{bit_at, mark_all}

-- the result on an image's words
unfoldable pub value_of : {A : Type 0} → Reads A → List ℕ → A
value_of p words = value p (bit_at words)

-- the marks after a run, from the marks before it
unfoldable pub marks_of : {A : Type 0} → Reads A → List ℕ → List ℕ → List ℕ
marks_of p words marks = mark_all marks (trace p (bit_at words))
