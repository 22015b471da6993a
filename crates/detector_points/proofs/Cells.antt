-- A cell by its test, products that fit, and three points as a list. Assumes nothing.
use Rattle.std.proofs.Common.{ℕ, zero, suc, ◌-◌, ◌*◌, ◌≤◌, mul-le-mul, arith, List, [], ◌∷◌, ◌≡◌, T, ltb, ltb→lt, length, get_or}
use lib.Ieee.Fits.{and_l, and_r}
use Rattle.rxing_result_point.specs.declared.PointU.{PointU}
use Rattle.detector_boundary.specs.declared.Boundary.{Boundary}
use Rattle.detector_boundary.specs.BoundaryClauses.{Placed}
use Rattle.detector_points.specs.Orientation.{point, adjusted_point, adjusted_points}
use Rattle.detector_points.specs.OrientationClauses.{is_cell, are_cells}

module _ (p : PointU) (b : Boundary) (cell : T (is_cell p)) (placed : Placed b) where
  pub column_fits : p.x * (b.right - b.left) ≤ 61440
  column_fits =
      let x : p.x ≤ 30 = omega (arith, ltb→lt p.x 30 (and_l (ltb p.x 30) (ltb p.y 33) cell)) in
      let width : b.right - b.left ≤ 2048 = omega (arith, placed.right) in
      mul-le-mul x width

pub cell_at : (ps : List PointU) (k : ℕ) → T (are_cells ps) → T (is_cell (get_or ps k (point 0 0)))
cell_at [] k t = tt
cell_at (p ∷ ps) zero t = and_l (is_cell p) (are_cells ps) t
cell_at (p ∷ ps) (suc k) t = cell_at ps k (and_r (is_cell p) (are_cells ps) t)

pub three_points : (b : Boundary) (ps : List PointU) → length ps ≡ 3 → {p q r : PointU}
    → p ≡ adjusted_point b (get_or ps 0 (point 0 0)) → q ≡ adjusted_point b (get_or ps 1 (point 0 0)) → r ≡ adjusted_point b (get_or ps 2 (point 0 0))
    → ◌≡◌ {A = List PointU} (p ∷ q ∷ r ∷ []) (adjusted_points b ps)
three_points b (p₀ ∷ q₀ ∷ r₀ ∷ []) h e f g = cc
three_points b [] h e f g = absurd (omega arith)
three_points b (_ ∷ []) h e f g = absurd (omega arith)
three_points b (_ ∷ _ ∷ []) h e f g = absurd (omega arith)
three_points b (_ ∷ _ ∷ _ ∷ _ ∷ _) h e f g = absurd (omega arith)
