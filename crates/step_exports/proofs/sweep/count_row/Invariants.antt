-- `step_exports::sweep::count_row` meets its contract. The invariant is `Counting`: from the present column, what is left of the definition ends as the
-- whole does.
use Rattle.std.proofs.Common.{ℕ, ◌-◌, ◌≤◌}
use Rattle.reads.specs.RunsClauses.{Resumes}
use Rattle.bit_matrix.specs.declared.BitMatrix.{BitMatrix}
use Rattle.bit_matrix.specs.ImageClauses.{Kept}
use Rattle.step_exports.specs.Row.{black_from}
use Rattle.step_exports.proofs.sweep.count_row.Given as goal

pub record Counting (first : BitMatrix) (row columns : ℕ) (image : BitMatrix) (count x : ℕ) : Type 0 where
  pub kept : Kept first image
  pub few : count ≤ x
  pub resumes : Resumes first.words.now (black_from first.shape row (columns - x) x count) image.marks.now
      (black_from first.shape row columns 0 0) first.marks.now

abbrev pub invariant-loop-x : goal.invariant-loop-x
invariant-loop-x l = Counting l.initial.image l.row l.columns l.image l.count l.x
