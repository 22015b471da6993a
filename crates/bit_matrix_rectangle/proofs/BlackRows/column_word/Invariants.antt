-- `bit_matrix_rectangle::BlackRows::column_word` meets its contract. The invariant: a bit tells whether its column has a black pixel in a row so far.
use Rattle.std.proofs.Common.{ℕ, ◌+◌, ◌*◌, ◌≤◌, ◌<◌, List, ◌≡◌}
use Rattle.reads.specs.Bits.{test_bit}
use Rattle.bit_matrix.specs.declared.Shape.{Shape}
use Rattle.bit_matrix_rectangle.specs.Rectangle.{black_at, black_column}
use Rattle.bit_matrix_rectangle.proofs.BlackRows.column_word.Given as goal

-- the rows before y are put together
pub record Joined (shape : Shape) (words : List ℕ) (x bottom word y : ℕ) : Type 0 where
  pub most : y ≤ bottom + 1
  pub bits : (k : ℕ) → k < 64 → test_bit word k ≡ black_column (black_at shape words) y (x * 64 + k)

abbrev pub invariant-loop-y : goal.invariant-loop-y
invariant-loop-y l = Joined l.self.shape l.self.words.now l.x l.self.bottom l.word l.y
