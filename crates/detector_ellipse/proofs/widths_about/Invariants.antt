-- `detector_ellipse::widths_about` meets its contract. The invariant is `Walking`: the image is kept, the widths walked stand in their places, and what is left
-- of the definition ends as the whole does.
use Rattle.std.proofs.Common.{◌≡◌, ℕ, ◌-◌, List, length, take}
use Rattle.reads.specs.RunsClauses.{Resumes}
use Rattle.bit_matrix.specs.declared.BitMatrix.{BitMatrix}
use Rattle.bit_matrix.specs.ImageClauses.{Kept}
use Rattle.rxing_result_point.specs.declared.PointU.{PointU}
use Rattle.detector_walks.specs.declared.Width.{Width}
use Rattle.detector_ellipse.specs.Ellipse.{widths_from, widths_about}
use Rattle.detector_ellipse.proofs.widths_about.Given as goal

pub record Walking (first : BitMatrix) (center : PointU) (image : BitMatrix) (widths : List Width) (i : ℕ) : Type 0 where
  pub all : length widths ≡ 72
  pub kept : Kept first image
  pub resumes : Resumes first.words.now (widths_from first.shape center (72 - i) i (take i widths)) image.marks.now
      (widths_about first.shape center) first.marks.now

abbrev pub invariant-loop-i : goal.invariant-loop-i
invariant-loop-i l = Walking l.initial.image l.center l.image l.width-items l.i
