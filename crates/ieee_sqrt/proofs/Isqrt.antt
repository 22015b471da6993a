-- Where n is m * c * c, the whole part of its root lies from g * c to (g + 1) * c, g the whole part of m's root.
-- Nothing here is about floats. Assumes nothing.
use Rattle.std.proofs.Common.{ℕ, ◌+◌, ◌*◌, ◌≤◌, ◌<◌, le_trans, lt_of_lt_of_le, lt_of_le_of_lt, le_of_eq, mul-le-mul_right, mul-lt-mul_of_pos_right, mul-pos, ◌≡◌, sym, ◌∙◌}
use Rattle.std.proofs.Math.Nat.{eq_of_mul-eq-mul_right}
use Rattle.ieee_sqrt.specs.IsqrtLaws.{IsRoot, root_at_least}
use Rattle.ieee.proofs.Numbers.{square_mul, lt_of_square_lt}

pub scaled_below : (m c g w : ℕ) → IsRoot m g → IsRoot (m * (c * c)) w → g * c ≤ w
scaled_below m c g w root whole =
    root_at_least (g * c) whole (le_trans (le_of_eq (square_mul g c)) (mul-le-mul_right (c * c) root.below))

pub scaled_above : (m c g w : ℕ) → 0 < c → IsRoot m g → IsRoot (m * (c * c)) w → w < (g + 1) * c
scaled_above m c g w p root whole =
    lt_of_square_lt w ((g + 1) * c)
    (lt_of_le_of_lt whole.below (lt_of_lt_of_le (mul-lt-mul_of_pos_right root.above (mul-pos p p)) (le_of_eq (sym (square_mul (g + 1) c)))))

pub scaled_exact : (m c g : ℕ) → 0 < c → g * c * (g * c) ≡ m * (c * c) → g * g ≡ m
scaled_exact m c g p h = eq_of_mul-eq-mul_right (c * c) (mul-pos p p) (g * g) m (sym (square_mul g c) ∙ h)
