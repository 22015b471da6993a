-- Corners through f32 and back to u32. Assumes nothing.
use Rattle.std.proofs.Common.{◌≡◌, ℕ, ◌^◌, ◌≤◌, [], ◌∷◌, ap₂, arith}
use Rattle.std.specs.Float.Ieee.{to_unsigned}
use Rattle.std.specs.Float.{binary32}
use Rattle.ieee.specs.BetweenLaws.{whole_between, cast_between}
use Rattle.rxing_result_point.specs.declared.PointU.{PointU}
use Rattle.rxing_result_point.specs.Points.{real, get_point}
use Rattle.detector_boundary.specs.declared.Boundary.{Boundary}
use Rattle.detector_boundary.specs.BoundaryClauses.{Placed}
use Rattle.detector_corners.specs.Corners.{corner, plain_corners, turned_corner, turned_corners}

cast_back : (n : ℕ) → n ≤ 2 ^ 24 → to_unsigned 32 (real n) ≡ n
cast_back n h =
    let ends = cast_between 32 (real n) (omega arith) (whole_between binary32 n h) in
    omega (arith, ends.0, ends.1)

whole_corner : (center : PointU) (degree x y : ℕ) → x ≤ 2048 → y ≤ 2048
    → turned_corner center degree (corner x y) ≡ get_point center (record { x = x; y = y }) degree
unfolding turned_corner
whole_corner center degree x y column line =
    ap₂ (λ (a b : ℕ). get_point center (record { x = a; y = b }) degree) (cast_back x (omega arith)) (cast_back y (omega arith))

-- the casts change no corner of a placed boundary
pub whole_corners : (b : Boundary) (center : PointU) (degree : ℕ) → Placed b → turned_corners b center degree
    ≡ get_point center (record { x = b.left; y = b.bottom }) degree
    ∷ get_point center (record { x = b.left; y = b.top }) degree
    ∷ get_point center (record { x = b.right; y = b.bottom }) degree
    ∷ get_point center (record { x = b.right; y = b.top }) degree
    ∷ []
unfolding plain_corners
whole_corners b center degree p =
    simp (
      whole_corner center degree b.left b.bottom (omega (arith, p)) (omega (arith, p)),
      whole_corner center degree b.left b.top (omega (arith, p)) (omega (arith, p)),
      whole_corner center degree b.right b.bottom (omega (arith, p)) (omega (arith, p)),
      whole_corner center degree b.right b.top (omega (arith, p)) (omega (arith, p)),
    )
