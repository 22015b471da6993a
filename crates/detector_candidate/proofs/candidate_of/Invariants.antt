-- `detector_candidate::candidate_of` meets its contract: a copy of the row's runs, and then of the column's, behind the three words before them.
use Rattle.std.specs.Prelude.{ℕ, List, ◌∷◌, ◌++◌, replicate}
use Rattle.records.specs.CopiesLaws.{Copied}
use Rattle.detector_window.specs.declared.Bullseye.{Bullseye}
use Rattle.detector_candidate.proofs.candidate_of.Given as goal

-- a record before the copies, and between them
abbrev pub with_centre : ℕ → Bullseye → List ℕ
with_centre row eye = eye.center ∷ row ∷ eye.radius ∷ replicate 37 0

abbrev pub with_row : ℕ → Bullseye → List ℕ
with_row row eye = eye.center ∷ row ∷ eye.radius ∷ (eye.buckets ++ replicate 26 0)

abbrev pub invariant-loop-k : goal.invariant-loop-k
invariant-loop-k l = Copied 11 3 (with_centre l.fn.row l.fn.eye) l.fn.eye.buckets l.fields l.k

abbrev pub invariant-loop-k-2 : goal.invariant-loop-k-2
invariant-loop-k-2 l = Copied 11 14 (with_row l.fn.row l.fn.eye) l.fn.vertical l.fields l.k
