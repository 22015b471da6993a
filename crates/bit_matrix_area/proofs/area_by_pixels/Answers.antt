-- `bit_matrix_area::area_by_pixels` meets its contract: the count, compared.
use Rattle.std.proofs.Common.{None, Some, ℕ, ◌+◌, ◌-◌, ◌*◌, ◌^◌, ◌≤◌, ◌<◌, ◌≡◌, mul-le-mul, arith, leb, length}
use Rattle.bit_matrix.specs.declared.BitMatrix.{BitMatrix}
use Rattle.bit_matrix.specs.ImageClauses.{RanOn}
use Rattle.bit_matrix.proofs.ImageLaws.{on_bind, on_done}
use Rattle.bit_matrix_area.specs.Area.{box, count_black, try_get_area}
use Rattle.bit_matrix_area.proofs.AreaLaws.{length_box, ran_few}
use Rattle.bit_matrix_area.proofs.area_by_pixels.Goals as goal

-- at most nine pixels
cells : (x y left from : ℕ) → left ≡ x - 1 → from ≡ y - 1 → (x + 2 - left) * (y + 2 - from) ≤ 9
cells x y left from l f = mul-le-mul {n₂ = 3} {m₂ = 3} (omega arith) (omega arith)

module _ {before after : BitMatrix} (x y left from : ℕ) (l : left ≡ x - 1) (f : from ≡ y - 1) where
  outside : RanOn (count_black before.shape (box left (x + 2) from (y + 2)) 0) before None after → RanOn (try_get_area before.shape x y) before None after
  unfolding try_get_area
  outside run = on_bind _ (rw (l, f) at run) (on_done _)

  module _ {n : ℕ} (run : RanOn (count_black before.shape (box left (x + 2) from (y + 2)) 0) before (Some n) after) where
    inside : RanOn (try_get_area before.shape x y) before (Some (leb ((x + 2 - left) * (y + 2 - from)) (2 * n))) after
    unfolding try_get_area
    inside = rw (l, f, ← length_box (x - 1) (x + 2) (y - 1) (y + 2)) (on_bind _ (rw (l, f) at run) (on_done _))

    twice_fits : 2 * n < 2 ^ 32
    twice_fits =
        let few : n ≤ 0 + length (box left (x + 2) from (y + 2)) = (ran_few _ _ 0 run.ran).few in
        omega (arith, few, length_box left (x + 2) from (y + 2), cells x y left from l f)

pub returns-in_err-black : goal.returns-in_err-black
returns-in_err-black c = rw c.from_residual.ensures (outside _ _ _ _ c.saturating_sub-left.ensures c.saturating_sub-from.ensures c.in_err-black.ensures)

pub overflow_mul-result : goal.overflow_mul-result
overflow_mul-result c = record { fits = twice_fits _ _ _ _ c.saturating_sub-left.ensures c.saturating_sub-from.ensures c.in_ok-black.ensures }

pub returns : goal.returns
returns c = inside _ _ _ _ c.saturating_sub-left.ensures c.saturating_sub-from.ensures c.in_ok-black.ensures
