-- How far the boundaries lie from a centre: the shifts of a symbol that is up to 32,768 wide are naturals, with a least and a largest value. Assumes nothing.
use Rattle.std.specs.Prelude.{◌≡◌, ℕ, zero, suc, ◌+◌, ◌-◌, ◌*◌, ◌/◌, ◌^◌, ◌<◌, ◌≤◌, ℤ, pos, refl, Float}
use Rattle.std.proofs.Common.{mul-le-mul_right, arith, lit≤, lit<}
use Rattle.std.specs.Float.Ieee.{binary32, of_bits, of_int, add, sub, mul, div, to_unsigned, to_signed}
use Rattle.std.specs.Float.Ieee.Positive.{num, den}
use Rattle.ieee.specs.BetweenLaws.{Between, whole_between, mul_between, div_between, add_between, sub_between, cast_between, to_signed_plain}
use Rattle.detector_boundary.specs.Boundary.{half_width, adjustment, left_shift, right_shift}

-- an integer that is a natural, from `low` to `high`
pub record Natural (low high : ℕ) (z : ℤ) : Type 0 where
  pub value : ℕ
  pub is : z ≡ pos value
  pub least : low ≤ value
  pub most : value ≤ high

truncated : (x : Float) {l h : ℕ} → h < 2 ^ 31 → Between l h x → Natural l h (to_signed 31 x)
truncated x fits b =
    let ends = cast_between 31 x fits b in
    record { value = to_unsigned 31 x; is = to_signed_plain 31 x b.plain; least = ends.0; most = ends.1 }

module _ (width : ℕ) (few : width ≤ 32768) where
  whole : Between width width (of_int binary32 (pos width))
  whole = whole_between binary32 width (omega arith)

  half : Between (width / 2) (width / 2 + 1) (half_width width)
  unfolding of_bits
  half = div_between binary32 (of_int binary32 (pos width)) _ (omega arith) whole (refl, refl) (lit< tt) (omega arith) (omega arith)

  -- 0.03 is below 1 / 32
  part : Between 0 ((width + 31) / 32) (adjustment width)
  unfolding of_bits
  part = mul_between binary32 (of_int binary32 (pos width)) _ (omega arith) whole (refl, refl) (omega arith) (omega arith)

  -- so the adjustment is no more than half: by their whole numbers, but for a width of 1
  ordered : (width + 31) / 32 ≤ width / 2 → num (adjustment width) * den (half_width width) ≤ num (half_width width) * den (adjustment width)
  ordered h =
      let p = den (adjustment width) in
      let q = den (half_width width) in
      omega (arith, mul-le-mul_right q part.high, mul-le-mul_right p half.low, mul-le-mul_right (p * q) h)

in_order : (width : ℕ) → width ≤ 32768 → num (adjustment width) * den (half_width width) ≤ num (half_width width) * den (adjustment width)
unfolding of_bits of_int mul div
in_order zero few = ordered 0 few (omega arith)
in_order (suc zero) few = lit≤ tt
in_order (suc (suc n)) few = ordered (suc (suc n)) few (omega arith)

pub left_shift_lem : (width : ℕ) → width ≤ 32768 → Natural (width / 2 - (width + 31) / 32) 16385 (left_shift width)
unfolding left_shift
left_shift_lem width few =
    let b = sub_between binary32 (half_width width) (adjustment width) (omega arith) (half width few) (part width few) (in_order width few) in
    let n = truncated (sub binary32 (half_width width) (adjustment width)) (omega arith) b in
    record { value = n.value; is = n.is; least = n.least; most = omega (arith, n.most) }

pub right_shift_lem : (width : ℕ) → width ≤ 32768 → Natural (width / 2) 17410 (right_shift width)
unfolding right_shift
right_shift_lem width few =
    let b = add_between binary32 (half_width width) (adjustment width) (omega arith) (half width few) (part width few) in
    let n = truncated (add binary32 (half_width width) (adjustment width)) (omega arith) b in
    record { value = n.value; is = n.is; least = omega (arith, n.least); most = omega (arith, n.most) }
