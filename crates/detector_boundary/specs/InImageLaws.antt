-- Every boundary lies in the image; a symbol of radius 6 or more has a boundary at least 33 wide and 30 high. Assumes nothing.
use Rattle.std.specs.Prelude.{◌≡◌, ℕ, zero, suc, ◌+◌, ◌-◌, ◌/◌, ◌<◌, ◌≤◌, min, max, T, ℤ, pos, negsuc, ◌+ℤ◌, ◌-ℤ◌, Float}
use Rattle.std.proofs.Math.Decide.{dec_lt}
use Rattle.std.proofs.Common.{arith, ap, ◌∙◌, lt-ltb, le-ltb}
use Rattle.std.proofs.Math.IntN.{sub_ℕ}
use Rattle.bit_matrix.specs.declared.Shape.{Shape}
use Rattle.rxing_result_point.specs.declared.PointU.{PointU}
use Rattle.detector_size.specs.declared.Size.{Size}
use Rattle.detector_boundary.specs.declared.Boundary.{Boundary}
use Rattle.detector_size.specs.Size.{plain_size, scaled_size}
use Rattle.detector_size.specs.SizeClauses.{is_scale}
use Rattle.detector_size.specs.SizeLaws.{plain_sized, scaled_sized}
use Rattle.detector_boundary.specs.BoundaryClauses.{Centered, Placed}
use Rattle.detector_boundary.specs.Boundary.{clamped, left_shift, right_shift, boundary_of, plain_boundary, scaled_boundary}
use Rattle.detector_boundary.specs.ShiftLaws.{left_shift_lem, right_shift_lem}

-- in the image
pub record InImage (shape : Shape) (b : Boundary) : Type 0 where
  pub left : b.left + 33 ≤ shape.width
  pub right : b.right ≤ shape.width
  pub far : 33 ≤ b.right
  pub top : b.top ≤ shape.height
  pub high : 33 ≤ b.top
  pub bottom : b.bottom + 30 ≤ shape.height

clamped_high : (z : ℤ) (low high : ℕ) → low ≤ high → clamped z low high ≤ high
clamped_high (pos n) low high h = omega arith
clamped_high (negsuc n) low high h = h

clamped_low : (z : ℤ) (low high : ℕ) → low ≤ clamped z low high
clamped_low (pos n) low high = omega arith
clamped_low (negsuc n) low high = omega arith

below : {n m k : ℕ} → n ≤ m - k → k ≤ m → n + k ≤ m
below h l = omega arith

pub in_image : {shape : Shape} {center : PointU} → Centered shape center → (size : Size) → InImage shape (boundary_of shape center size)
unfolding boundary_of
in_image {shape} {center} p size =
    let left = pos center.x -ℤ left_shift size.width in
    let right = pos center.x +ℤ right_shift size.width in
    let top = pos center.y +ℤ pos (size.height / 2) in
    let bottom = pos center.y -ℤ pos (size.height / 2) in
    let wide = p.limits.width_least in
    let high = p.limits.height_least in
    record {
      left = below (clamped_high left 0 (shape.width - 33) (omega arith)) wide;
      right = clamped_high right 33 shape.width wide;
      far = clamped_low right 33 shape.width;
      top = clamped_high top 33 shape.height high;
      high = clamped_low top 33 shape.height;
      bottom = below (clamped_high bottom 0 (shape.height - 30) (omega arith)) (omega (arith, high));
    }

-- a difference of naturals that is clamped from 0 may as well be cut at 0
clamped_difference : (c n high : ℕ) → clamped (pos c -ℤ pos n) 0 high ≡ min (c - n) high
clamped_difference c zero high = omega arith
clamped_difference c (suc n) high = go (dec_lt c (suc n))
  where
    go : Dec (c < suc n) → clamped (sub_ℕ c (suc n)) 0 high ≡ min (c - suc n) high
    go (yes h) = rw (lt-ltb c (suc n) h) (omega arith)
    go (no h) = rw (le-ltb c (suc n) (omega arith)) (omega arith)

-- the clamps keep the margin that the two shifts together have
apart : (c size l r margin : ℕ) → c < size → 33 ≤ size → margin ≤ 33 → margin ≤ l + r → min (c - l) (size - margin) + margin ≤ max 33 (min (c + r) size)
apart c size l r margin inside large small far = omega arith

placed : {shape : Shape} {center : PointU} → Centered shape center → (size : Size) → 36 ≤ size.width → size.width ≤ 32768 → 30 ≤ size.height
    → Placed (boundary_of shape center size)
unfolding boundary_of
placed {shape} {center} p size wide narrow high =
    let x = center.x in
    let y = center.y in
    let width = shape.width in
    let height = shape.height in
    let l = left_shift_lem size.width narrow in
    let r = right_shift_lem size.width narrow in
    let half = size.height / 2 in
    let left = ap (λ (z : ℤ). clamped (pos x -ℤ z) 0 (width - 33)) l.is ∙ clamped_difference x l.value (width - 33) in
    let right = ap (λ (z : ℤ). clamped (pos x +ℤ z) 33 width) r.is in
    let across = apart x width l.value r.value 33 p.inside.column p.limits.width_least (omega arith) (omega (arith, l.least, r.least)) in
    let upright = apart y height half half 30 p.inside.row p.limits.height_least (omega arith) (omega arith) in
    let inside = in_image p size in
    record {
      right = omega (arith, inside.right, p.limits.width_most);
      top = omega (arith, inside.top, p.limits.height_most);
      wide = omega (arith, left, right, across);
      high = omega (arith, clamped_difference y half (height - 30), upright);
    }

pub plain_placed : {shape : Shape} {center : PointU} {radius : ℕ} → Centered shape center → 6 ≤ radius → radius < 2048
    → Placed (plain_boundary shape center radius)
plain_placed {radius = radius} p least small =
    let s = plain_sized radius small in
    placed p (plain_size radius) (omega (arith, s.wide)) (omega (arith, s.narrow)) (omega (arith, s.high))

pub scaled_placed : {shape : Shape} {center : PointU} {radius : ℕ} (scale : Float) → Centered shape center → 6 ≤ radius → radius < 2048 → T (is_scale scale)
    → Placed (scaled_boundary shape center radius scale)
scaled_placed {radius = radius} scale p least small t =
    let s = scaled_sized radius scale small t in
    placed p (scaled_size radius scale) (omega (arith, s.wide)) (omega (arith, s.narrow)) (omega (arith, s.high))
