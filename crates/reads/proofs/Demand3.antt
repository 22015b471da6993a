-- Demand 3, for every reading program: a stored bit is marked exactly when it is read, and the bits marked fix the whole run. Assumes nothing.
use Rattle.std.specs.Prelude.{ℕ, ◌/◌, ◌<◌, true, ◌↔◌, ◌≡◌, length}
use Rattle.std.proofs.Math.Decide.{dec_lt}
use Rattle.std.proofs.Common.{arith, sym, ap, ◌∙◌, List}
use mathlib.Core.List.{Memᴰ}
use Rattle.reads.specs.Reads.{Reads, value, trace}
use Rattle.reads.proofs.ReadsLaws.{same_run}
use Rattle.reads.specs.Bits.{bit_at, mark_all, zeros}
use Rattle.reads.proofs.BitsLaws.{bit_past, marked_exactly}
use Rattle.reads.specs.Runs.{value_of, marks_of}

-- a stored bit is marked exactly when the program reads it
pub marked_when_read : {A : Type 0} (p : Reads A) (words : List ℕ) (i : ℕ) → i / 64 < length words
    → (bit_at (marks_of p words (zeros (length words))) i ≡ true) ↔ Memᴰ i (trace p (bit_at words))
unfolding marks_of
marked_when_read p words i stored = marked_exactly (length words) (trace p (bit_at words)) i stored

-- two images of one size that agree at every bit that the first run marks: both runs have the same result and the same marks
pub non_interference : {A : Type 0} (p : Reads A) (words other : List ℕ) → length other ≡ length words
    → ((i : ℕ) → bit_at (marks_of p words (zeros (length words))) i ≡ true → bit_at other i ≡ bit_at words i)
    → (value_of p other ≡ value_of p words)
    × (marks_of p other (zeros (length other)) ≡ marks_of p words (zeros (length words)))
unfolding value_of marks_of
non_interference p words other size agree = (
  same.0,
  ap (λ (n : ℕ). mark_all (zeros n) (trace p (bit_at other))) size ∙ ap (mark_all (zeros (length words))) same.1,
)
  where
    -- a bit past the last word is white in both
    at : (i : ℕ) → Dec (i / 64 < length words) → Memᴰ i (trace p (bit_at words)) → bit_at other i ≡ bit_at words i
    at i (yes stored) m = agree i ((marked_when_read p words i stored).1 m)
    at i (no past) m = bit_past other i (omega arith) ∙ sym (bit_past words i (omega arith))

    same : (value p (bit_at other) ≡ value p (bit_at words)) × (trace p (bit_at other) ≡ trace p (bit_at words))
    same = same_run p (bit_at words) (bit_at other) λ i m. at i (dec_lt (i / 64) (length words)) m
