-- What the clauses of functions name. Assumes nothing.
use Rattle.std.specs.Prelude.{ℕ, Bool, true, List, ◌≡◌}
use Rattle.reads.specs.Bits.{bit_at}
use Rattle.bit_matrix.specs.declared.Shape.{Shape}
use Rattle.bit_matrix.specs.FlankedClauses.{Flanked}
use Rattle.rxing_result_point.specs.declared.PointU.{PointU}

-- where the ellipse check is on, the centre lies between black pixels of its row
pub record FlankedWhen (ellipse : Bool) (shape : Shape) (words : List ℕ) (center : PointU) : Type 0 where
  pub flanked : ellipse ≡ true → Flanked shape (bit_at words) center.x center.y
