-- `bit_matrix_rectangle::BlackRows::left` meets its contract. The invariant: each column of the words so far is white.
use Rattle.std.specs.Prelude.{ℕ, ◌*◌, ◌<◌, false, List, ◌≡◌}
use Rattle.bit_matrix.specs.declared.Shape.{Shape}
use Rattle.bit_matrix_rectangle.specs.Rectangle.{black_at, black_column}
use Rattle.bit_matrix_rectangle.proofs.BlackRows.left.Given as goal

-- the columns of the words before x are white
pub record Passed (shape : Shape) (words : List ℕ) (x : ℕ) : Type 0 where
  pub white : (c : ℕ) → c < x * 64 → black_column (black_at shape words) shape.height c ≡ false

abbrev pub invariant-loop-x : goal.invariant-loop-x
invariant-loop-x l = Passed l.self.shape l.self.words.now l.x
