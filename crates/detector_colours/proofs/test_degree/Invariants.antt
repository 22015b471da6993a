-- `detector_colours::test_degree` meets its contract. The invariant is `Testing`: the image is kept, and from the present point what is left of the
-- definition ends as the whole does.
use Rattle.std.proofs.Common.{ℕ, ◌-◌, List}
use Rattle.reads.specs.RunsClauses.{Resumes}
use Rattle.bit_matrix.specs.declared.BitMatrix.{BitMatrix}
use Rattle.bit_matrix.specs.ImageClauses.{Kept}
use Rattle.sines.specs.declared.Angle.{Angle}
use Rattle.rxing_result_point.specs.declared.Point.{Point}
use Rattle.detector_colours.specs.Colours.{points_from, test_degree}
use Rattle.detector_colours.specs.Looks.{look_offset}
use Rattle.detector_colours.proofs.test_degree.Given as goal

pub record Testing (first : BitMatrix) (center : Point) (offsets : List Point) (angle : Angle) (image : BitMatrix) (k : ℕ) : Type 0 where
  pub kept : Kept first image
  pub resumes : Resumes first.words.now (points_from (look_offset first.shape center offsets angle) (18 - k) k) image.marks.now
      (test_degree (look_offset first.shape center offsets angle)) first.marks.now

abbrev pub invariant-loop-k : goal.invariant-loop-k
invariant-loop-k l = Testing l.initial.image l.center l.offsets l.angle l.image l.k
