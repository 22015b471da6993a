-- What the clauses of reading functions name: a run on an image. Assumes nothing.
use Rattle.std.specs.Prelude.{◌≡◌}
use Rattle.reads.specs.Reads.{Reads}
use Rattle.reads.specs.RunsClauses.{Ran}
use Rattle.bit_matrix.specs.declared.BitMatrix.{BitMatrix}

-- all of an image is as before, in the buffers lent before, but for its marks
pub record Kept (before after : BitMatrix) : Type 0 where
  pub words : after.words.now ≡ before.words.now
  pub shape : after.shape ≡ before.shape
  pub lent : after.marks.ghost_name ≡ before.marks.ghost_name

-- p run on an image gives r, and leaves the image as `after`
pub record RanOn {A : Type 0} (p : Reads A) (before : BitMatrix) (r : A) (after : BitMatrix) : Type 0 where
  pub kept : Kept before after
  pub ran : Ran p before.words.now before.marks.now r after.marks.now
