-- `detector_boxes::box_kept` meets its contract. The invariant is `Boxing`: the records passed have their symbols, the others are as they were, and what
-- is left of the definition ends as the whole does.
use Rattle.std.proofs.Common.{ℕ, Bool, ◌≡◌, List, [], take, drop}
use Rattle.reads.specs.RunsClauses.{Resumes}
use Rattle.bit_matrix.specs.declared.BitMatrix.{BitMatrix}
use Rattle.bit_matrix.specs.ImageClauses.{Kept}
use Rattle.records.specs.Records.{rows}
use Rattle.records.specs.RecordsClauses.{Each}
use Rattle.records.specs.RecordsLaws.{Beside}
use Rattle.detector_boxes.specs.BoxingClauses.{Boxable}
use Rattle.detector_boxes.proofs.OneByOne.{boxed_from}
use Rattle.detector_boxes.proofs.box_kept.Given as goal

pub record Boxing (image₀ : BitMatrix) (records₀ : List ℕ) (kept : ℕ) (ellipse : Bool) (image : BitMatrix) (records : List ℕ) (i : ℕ) : Type 0 where
  pub same : Kept image₀ image
  pub each : Each (Boxable image₀.shape image₀.words.now) (rows kept records₀)
  pub beside : Beside kept records₀ records
  pub back : drop i (rows kept records) ≡ drop i (rows kept records₀)
  pub resumes : Resumes image₀.words.now
      (boxed_from ellipse image₀.shape (take i (rows kept records)) (drop i (rows kept records₀))) image.marks.now
      (boxed_from ellipse image₀.shape [] (rows kept records₀)) image₀.marks.now

abbrev pub invariant-loop-i : goal.invariant-loop-i
invariant-loop-i l = Boxing l.initial.image l.initial.records l.kept l.ellipse l.image l.records l.i
