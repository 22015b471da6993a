-- `bit_matrix_rectangle::BlackRows::right` meets its contract. The invariant: each column from the present word on is white.
use Rattle.std.proofs.Common.{ℕ, ◌*◌, ◌≤◌, ◌<◌, false, List, ◌≡◌}
use Rattle.bit_matrix.specs.declared.Shape.{Shape}
use Rattle.bit_matrix_rectangle.specs.Rectangle.{black_at, black_column}
use Rattle.bit_matrix_rectangle.proofs.BlackRows.right.Given as goal

-- the columns from word x on are white
pub record Passed (shape : Shape) (words : List ℕ) (x : ℕ) : Type 0 where
  pub most : x ≤ shape.row_words
  pub white : (c : ℕ) → x * 64 ≤ c → c < 64 * shape.row_words → black_column (black_at shape words) shape.height c ≡ false

abbrev pub invariant-loop-x : goal.invariant-loop-x
invariant-loop-x l = Passed l.self.shape l.self.words.now l.x

abbrev pub decreases-loop-x : goal.decreases-loop-x
decreases-loop-x l = l.x
