-- `bit_matrix_area::count_box` meets its contract. The invariant is `Counting`: from the present column, what is left of the definition ends as the whole does.
use Rattle.std.proofs.Common.{ℕ, ◌-◌, ◌*◌, ◌≤◌}
use Rattle.reads.specs.RunsClauses.{Resumes}
use Rattle.bit_matrix.specs.declared.BitMatrix.{BitMatrix}
use Rattle.bit_matrix.specs.ImageClauses.{Kept}
use Rattle.bit_matrix_area.specs.Area.{box, count_black}
use Rattle.bit_matrix_area.proofs.count_box.Given as goal

pub record Counting (i₀ : BitMatrix) (left right from to : ℕ) (image : BitMatrix) (black x : ℕ) : Type 0 where
  pub kept : Kept i₀ image
  pub begun : left ≤ x
  pub few : black ≤ 3 * (x - left)
  pub resumes : Resumes i₀.words.now
      (count_black i₀.shape (box x right from to) black) image.marks.now
      (count_black i₀.shape (box left right from to) 0) i₀.marks.now

abbrev pub invariant-loop-x : goal.invariant-loop-x
invariant-loop-x l = Counting l.initial.image l.left l.right l.from l.to l.image l.black l.x
