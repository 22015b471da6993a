-- No run keeps more records than there is room for (`file_few`), and the length of what is lent from arrays of zeros. Assumes nothing.
use Rattle.std.specs.Prelude.{ℕ, ◌≤◌, Bool, true, false, List, ◌≡◌, refl, eqb, length, take, replicate}
use Rattle.std.proofs.Common.{arith, sym, eqb-true, length-take-le}
use Rattle.std.proofs.Math.Path.{subst⁻¹}
use Rattle.std.proofs.lemmas.List.{length-replicate}
use Rattle.reads.specs.Bits.{bit_at}
use Rattle.reads.specs.Runs.{value_of}
use Rattle.bit_matrix.specs.declared.Shape.{Shape}
use Rattle.bit_matrix.specs.ShapeClauses.{Limits}
use Rattle.crop.specs.Crop.{image, file_refusal, refused_or}
use Rattle.crop.specs.CropLaws.{file_ready}
use Rattle.records.specs.Records.{capacity_of}
use Rattle.detector_verdict.specs.VerdictLaws.{counted_few}
use Rattle.detector_search.specs.SearchLaws.{search_counted}
use Rattle.detector.specs.Detector.{accepted_run, file_run}

-- ---- no run keeps more records than there is room for

accepted_few : {shape : Shape} (words records : List ℕ) (ellipse : Bool) → Limits shape
    → (accepted_run shape words records ellipse).report.kept ≤ capacity_of (length records)
unfolding accepted_run value_of
accepted_few {shape} words records ellipse limits =
    counted_few ((search_counted (record { shape = shape; capacity = capacity_of (length records); ellipse = ellipse }) limits).on (bit_at words)).counted

pub file_few : (file words records marks : List ℕ) (ellipse : Bool)
    → (file_run file words records marks ellipse).run.report.kept ≤ capacity_of (length records)
unfolding file_run refused_or
file_few file words records marks ellipse = go (eqb number 0) refl
  where
    number : ℕ
    number = file_refusal file (length words) (length marks) (length records)

    go : (b : Bool) → eqb number 0 ≡ b → (file_run file words records marks ellipse).run.report.kept ≤ capacity_of (length records)
    go true e = rw e (accepted_few (image file) records ellipse (file_ready file words marks records (eqb-true _ _ e)).image.limits)
    go false e = rw e (omega arith)

-- ---- buffers lent from arrays of zeros

-- the length of a part of m zeros
pub zeros_lent : (m n : ℕ) → n ≤ m → n ≡ length {A = ℕ} (take n (replicate m 0))
zeros_lent m n h = sym (length-take-le n (replicate m 0) (subst⁻¹ (λ (k : ℕ). n ≤ k) (length-replicate {A = ℕ} m 0) h))
