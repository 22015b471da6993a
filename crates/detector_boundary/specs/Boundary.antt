-- `calculate_simple_boundary` of detector.rs. A coordinate less a shift is an integer, for a clamp takes numbers below zero too. Definitions only.
-- Assumes nothing.
use Rattle.std.specs.Prelude.{ℕ, ◌-◌, ◌/◌, min, max, ℤ, pos, negsuc, ◌+ℤ◌, ◌-ℤ◌, from_bits, Float}
use Rattle.std.specs.Float.{binary32}
use Rattle.std.specs.Float.Ieee.{of_int, add, sub, mul, div, to_signed}
use Rattle.bit_matrix.specs.declared.Shape.{Shape}
use Rattle.rxing_result_point.specs.declared.PointU.{PointU}
use Rattle.detector_size.specs.Size.{plain_size, scaled_size}
use Rattle.detector_size.specs.declared.Size.{Size}
use Rattle.detector_boundary.specs.declared.Boundary.{Boundary}

-- Rust's `clamp`, between two naturals
abbrev pub clamped : ℤ → ℕ → ℕ → ℕ
clamped (pos n) low high = max low (min n high)
clamped (negsuc n) low high = low

-- half of a symbol's width, and 0.03 of the width, in f32
abbrev pub half_width : ℕ → Float
half_width width = div binary32 (of_int binary32 (pos width)) (from_bits binary32 0x4000_0000)

abbrev pub adjustment : ℕ → Float
adjustment width = mul binary32 (of_int binary32 (pos width)) (from_bits binary32 0x3cf5_c28f)

-- `left_shift`, `right_shift`: half the width less or more the adjustment, truncated
unfoldable pub left_shift : ℕ → ℤ
left_shift width = to_signed 31 (sub binary32 (half_width width) (adjustment width))

unfoldable pub right_shift : ℕ → ℤ
right_shift width = to_signed 31 (add binary32 (half_width width) (adjustment width))

-- the boundaries of a symbol of that size about a centre, in an image of that shape
unfoldable pub boundary_of : Shape → PointU → Size → Boundary
boundary_of shape center size = record {
  left = clamped (pos center.x -ℤ left_shift size.width) 0 (shape.width - 33);
  right = clamped (pos center.x +ℤ right_shift size.width) 33 shape.width;
  top = clamped (pos center.y +ℤ pos (size.height / 2)) 33 shape.height;
  bottom = clamped (pos center.y -ℤ pos (size.height / 2)) 0 (shape.height - 30);
}

-- the plain box's boundaries, `calculate_simple_boundary(circle, Some(image), None, false)`
abbrev pub plain_boundary : Shape → PointU → ℕ → Boundary
plain_boundary shape center radius = boundary_of shape center (plain_size radius)

-- those of a scale, `calculate_simple_boundary(circle, Some(image), Some(scale), true)`
abbrev pub scaled_boundary : Shape → PointU → ℕ → Float → Boundary
scaled_boundary shape center radius scale = boundary_of shape center (scaled_size radius scale)
