-- `bit_matrix_area::count_column` meets its contract. The invariant is `Counting`: from the present row, what is left of the definition ends as the whole does.
use Rattle.std.proofs.Common.{ℕ, ◌+◌, ◌-◌, ◌^◌, ◌<◌}
use Rattle.reads.specs.RunsClauses.{Resumes}
use Rattle.bit_matrix.specs.declared.BitMatrix.{BitMatrix}
use Rattle.bit_matrix.specs.ImageClauses.{Kept}
use Rattle.bit_matrix_area.specs.Area.{column, count_black}
use Rattle.bit_matrix_area.proofs.count_column.Given as goal

pub record Counting (i₀ : BitMatrix) (x from to black : ℕ) (image : BitMatrix) (count y : ℕ) : Type 0 where
  pub kept : Kept i₀ image
  pub room : count + (to - y) < 2 ^ 32
  pub resumes : Resumes i₀.words.now
      (count_black i₀.shape (column x y to) count) image.marks.now
      (count_black i₀.shape (column x from to) black) i₀.marks.now

abbrev pub invariant-loop-y : goal.invariant-loop-y
invariant-loop-y l = Counting l.initial.image l.x l.from l.to l.black l.image l.count l.y
