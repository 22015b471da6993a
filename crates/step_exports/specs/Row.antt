-- A row's pixels one by one. Definitions only. Assumes nothing.
use Rattle.std.specs.Prelude.{ℕ, zero, suc, ◌+◌}
use Rattle.reads.specs.Reads.{Reads, done, ◌>>=◌}
use Rattle.reads.specs.Bits.{digit}
use Rattle.bit_matrix.specs.declared.Shape.{Shape}
use Rattle.bit_matrix.specs.Pixels.{pixel}

module _ (shape : Shape) (row : ℕ) where
  -- the black pixels among the n columns from x on, beside those counted before
  unfoldable pub black_from : ℕ → ℕ → ℕ → Reads ℕ
  black_from zero x count = done count
  black_from (suc n) x count = do
    black ← pixel shape x row
    black_from n (x + 1) (count + digit black)
