-- `detector_boundary::calculate_simple_boundary` meets its contract: a sum or difference that fits, clamped, for each of the four.
use Rattle.std.proofs.Common.{◌≡◌, ℕ, ◌+◌, ◌-◌, ◌/◌, ◌≤◌, ℤ, pos, ◌+ℤ◌, ◌-ℤ◌, nat_abs, sym, ap, ◌∙◌, ap₂, arith, w32, SFits, to_z, Float}
use lib.Signed.{quot_z}
use Rattle.std.proofs.lemmas.Int.{to_z_pos}
use Rattle.std.specs.Float.Ieee.{of_bits, of_int, add, sub, mul, div, to_signed}
use Rattle.std.specs.Float.{binary32}
use Rattle.bit_matrix.specs.declared.Shape.{Shape}
use Rattle.rxing_result_point.specs.declared.PointU.{PointU}
use Rattle.detector_boundary.specs.declared.Boundary.{Boundary}
use Rattle.detector_boundary.specs.Boundary.{clamped, left_shift, right_shift, boundary_of}
use Rattle.detector_boundary.specs.BoundaryClauses.{Centered}
use Rattle.detector_boundary.specs.ShiftLaws.{Natural, left_shift_lem, right_shift_lem}
use Rattle.detector_boundary.proofs.Signed.{read, natural_read, half_is, less_fits, more_fits, less_read, more_read, margin_read}
use Rattle.detector_boundary.proofs.calculate_simple_boundary.Goals as goal

-- half of a width that is w as an f32, and 0.03 of it
abbrev half : Float → Float
half w = div binary32 w (of_bits binary32 0x4000_0000)

abbrev part : Float → Float
part w = mul binary32 w (of_bits binary32 0x3cf5_c28f)

module _ {shape : Shape} {center : PointU} (p : Centered shape center) where
  abbrev x : ℕ
  x = center.x

  abbrev y : ℕ
  y = center.y

  abbrev width : ℕ
  width = shape.width

  abbrev height : ℕ
  height = shape.height

  column : x ≤ 2048
  column = omega (arith, p.inside.column, p.limits.width_most)

  row : y ≤ 2048
  row = omega (arith, p.inside.row, p.limits.height_most)

  -- ---- left and right
  module _ (across : ℕ) (few : across ≤ 32768) (w : Float) (v : ℤ) (e : w ≡ of_int binary32 (pos across)) where
    module _ (f : v ≡ to_signed 31 (sub binary32 (half w) (part w))) where
      left : Natural (across / 2 - (across + 31) / 32) 16385 (left_shift across)
      left = left_shift_lem across few

      left_few : left.value ≤ 32768
      left_few = omega (arith, left.most)

      left_read : read v ≡ pos left.value
      unfolding left_shift
      left_read = natural_read _ left_few (f ∙ ap (λ (u : Float). to_signed 31 (sub binary32 (half u) (part u))) e ∙ left.is)

      left_fits : SFits w32 (to_z w32 x -ℤ read v)
      left_fits = less_fits x _ v column left_few left_read

      left_is : {r : ℕ} → r ≡ clamped (read (to_z w32 x -ℤ read v)) 0 (nat_abs (read (to_z w32 width -ℤ pos 33)))
          → r ≡ clamped (pos x -ℤ left_shift across) 0 (width - 33)
      left_is g =
          g
          ∙ ap₂ (λ (z i : ℤ). clamped z 0 (nat_abs i)) (less_read x _ v column left_few left_read)
          (margin_read width 33 (omega arith) p.limits.width_least p.limits.width_most)
          ∙ ap (λ (z : ℤ). clamped (pos x -ℤ z) 0 (width - 33)) (sym left.is)

    module _ (f : v ≡ to_signed 31 (add binary32 (half w) (part w))) where
      right : Natural (across / 2) 17410 (right_shift across)
      right = right_shift_lem across few

      right_few : right.value ≤ 32768
      right_few = omega (arith, right.most)

      right_read : read v ≡ pos right.value
      unfolding right_shift
      right_read = natural_read _ right_few (f ∙ ap (λ (u : Float). to_signed 31 (add binary32 (half u) (part u))) e ∙ right.is)

      right_fits : SFits w32 (to_z w32 x +ℤ read v)
      right_fits = more_fits x _ v column right_few right_read

      right_is : {r : ℕ} → r ≡ clamped (read (to_z w32 x +ℤ read v)) 33 (nat_abs (to_z w32 width)) → r ≡ clamped (pos x +ℤ right_shift across) 33 width
      right_is g =
          g
          ∙ ap₂ (λ (z i : ℤ). clamped z 33 (nat_abs i)) (more_read x _ v column right_few right_read) (to_z_pos w32 width (omega (arith, p.limits.width_most)))
          ∙ ap (λ (z : ℤ). clamped (pos x +ℤ z) 33 width) (sym right.is)

  -- ---- top and bottom
  module _ (tall : ℕ) (few : tall ≤ 32768) where
    abbrev up_down : ℤ
    up_down = quot_z (to_z w32 tall) (pos 2)

    half_few : tall / 2 ≤ 32768
    half_few = omega arith

    half_read : read up_down ≡ pos (tall / 2)
    half_read = natural_read _ half_few (half_is tall few)

    top_is : {r : ℕ} → r ≡ clamped (read (to_z w32 y +ℤ read up_down)) 33 (nat_abs (to_z w32 height)) → r ≡ clamped (pos y +ℤ pos (tall / 2)) 33 height
    top_is g =
        g
        ∙ ap₂ (λ (z i : ℤ). clamped z 33 (nat_abs i)) (more_read y _ up_down row half_few half_read) (to_z_pos w32 height (omega (arith, p.limits.height_most)))

    bottom_is : {r : ℕ} → r ≡ clamped (read (to_z w32 y -ℤ read up_down)) 0 (nat_abs (read (to_z w32 height -ℤ pos 30)))
        → r ≡ clamped (pos y -ℤ pos (tall / 2)) 0 (height - 30)
    bottom_is g =
        g
        ∙ ap₂ (λ (z i : ℤ). clamped z 0 (nat_abs i)) (less_read y _ up_down row half_few half_read)
        (margin_read height 30 (omega arith) p.limits.height_least p.limits.height_most)

same_boundary : {l r t b l' r' t' b' : ℕ} → l ≡ l' → r ≡ r' → t ≡ t' → b ≡ b'
    → ◌≡◌ {A = Boundary} (record { left = l; right = r; top = t; bottom = b }) (record { left = l'; right = r'; top = t'; bottom = b' })
same_boundary p q r s = cc

pub overflow_sub-center : goal.overflow_sub-center
overflow_sub-center c = search left_fits

pub overflow_add-center : goal.overflow_add-center
overflow_add-center c = search right_fits

pub returns : goal.returns
unfolding boundary_of
returns c = same_boundary (search left_is) (search right_is) (search top_is) (search bottom_is)
