-- `detector_turn::try_scales` meets its contract. The invariant is `Trying`: the image is kept, the circle is as the scales want it, and from the present
-- scale and circle what is left of the definition ends as the whole does.
use Rattle.std.specs.Prelude.{ℕ, ◌+◌, ◌-◌}
use Rattle.reads.specs.RunsClauses.{Resumes}
use Rattle.bit_matrix.specs.declared.BitMatrix.{BitMatrix}
use Rattle.bit_matrix.specs.ImageClauses.{Kept}
use Rattle.detector_circle.specs.declared.Circle.{Circle}
use Rattle.detector_turn.specs.Scales.{scales_from, try_scales}
use Rattle.detector_turn.specs.ScalesClauses.{InsideCircle}
use Rattle.detector_turn.proofs.try_scales.Given as goal

pub record Trying (first : BitMatrix) (start : Circle) (image : BitMatrix) (circle : Circle) (i : ℕ) : Type 0 where
  pub kept : Kept first image
  pub circled : InsideCircle image.shape circle
  pub resumes : Resumes first.words.now (scales_from first.shape (5 - i) (i + 1) circle) image.marks.now (try_scales first.shape start) first.marks.now

abbrev pub invariant-loop-i : goal.invariant-loop-i
invariant-loop-i l = Trying l.initial.image l.initial.circle l.image l.circle l.i
