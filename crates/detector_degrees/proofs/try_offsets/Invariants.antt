-- `detector_degrees::try_offsets` meets its contract. The invariant is `Trying`: from the present degree, what is left of the definition ends as the whole
-- does.
use Rattle.std.proofs.Common.{ℕ, ◌-◌, Bool, Option}
use Rattle.reads.specs.Reads.{Reads}
use Rattle.reads.specs.RunsClauses.{Resumes}
use Rattle.bit_matrix.specs.declared.BitMatrix.{BitMatrix}
use Rattle.bit_matrix.specs.ImageClauses.{Kept}
use Rattle.sines.specs.declared.Angle.{Angle}
use Rattle.detector_colours.specs.Looks.{look_offset}
use Rattle.detector_degrees.specs.Degrees.{degrees_from}
use Rattle.detector_degrees.proofs.try_offsets.Given as goal

pub record Trying (image₀ : BitMatrix) (look : Angle → ℕ → Reads (Option Bool)) (image : BitMatrix) (i : ℕ) : Type 0 where
  pub kept : Kept image₀ image
  pub resumes : Resumes image₀.words.now (degrees_from look (175 - i) i) image.marks.now (degrees_from look 175 0) image₀.marks.now

abbrev pub invariant-loop-i : goal.invariant-loop-i
invariant-loop-i l = Trying l.initial.image (look_offset l.initial.image.shape l.center l.offsets) l.image l.i
