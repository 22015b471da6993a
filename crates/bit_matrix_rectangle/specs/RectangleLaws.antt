-- What holds of the enclosing rectangle: there is none exactly when no pixel is black, it lies inside the image, and it is fixed by the pixels inside.
-- Assumes nothing.
use Rattle.std.specs.Prelude.{ℕ, ◌≤◌, ◌<◌, Bool, ◌↔◌, Some, None, ◌≡◌}
use Rattle.std.proofs.Common.{arith, sym}
use Rattle.std.proofs.Math.Bool.{true, false, cond}
use Rattle.std.proofs.lemmas.Bool.{false≢true}
use Rattle.std.proofs.Math.Path.{refl, ap, subst}
use Rattle.crop_padding.specs.Below.{any_below}
use Rattle.crop_padding.specs.AnyLaws.{any_found, any_witness, any_same, none_holds, none_below}
use Rattle.bit_matrix_rectangle.specs.declared.Rectangle.{Rectangle}
use Rattle.bit_matrix_rectangle.specs.Rectangle.{least_below, greatest_below, black_column, black_row, rectangle_of, if_black, enclosing_rectangle}
use Rattle.bit_matrix_rectangle.specs.RectangleClauses.{Within}
use Rattle.bit_matrix_rectangle.specs.ExtremesLaws.{least_le, le_greatest, greatest_lt, least_same, greatest_same}

module _ (black : ℕ → ℕ → Bool) (w h : ℕ) where
  -- the row and the column of a black pixel
  pub pixel_row_lem : (x y : ℕ) → x < w → black x y ≡ true → black_row black w y ≡ true
  pixel_row_lem x y column set = any_found (λ i. black i y) w column set

  pub pixel_column_lem : (x y : ℕ) → y < h → black x y ≡ true → black_column black h x ≡ true
  pixel_column_lem x y row set = any_found (λ i. black x i) h row set

  -- none exactly when no pixel is black
  pub blank_when_white : (enclosing_rectangle black w h ≡ None) ↔ ((x y : ℕ) → x < w → y < h → black x y ≡ false)
  unfolding enclosing_rectangle
  blank_when_white = (
    λ e x y column row. none_holds (λ i. black i y) w (none_holds (black_row black w) h (white (any_below (black_row black w) h) e) row) column,
    λ each. ap (λ (b : Bool). cond b (Some (rectangle_of black w h)) None)
        (none_below (black_row black w) h λ y row. none_below (λ i. black i y) w λ x column. each x y column row),
  )
    where
      white : (b : Bool) → cond b (Some (rectangle_of black w h)) None ≡ None → b ≡ false
      white true e = absurd (false≢true (ap (if_black true (λ r. false)) e))
      white false e = refl

  -- about a black pixel it lies inside
  within_of : (x y : ℕ) → x < w → y < h → black x y ≡ true → Within w h (rectangle_of black w h)
  within_of x y column row set =
      let l : least_below (black_column black h) w ≤ x = least_le (black_column black h) w (pixel_column_lem x y row set) in
      let r : x ≤ greatest_below (black_column black h) w = le_greatest (black_column black h) w column (pixel_column_lem x y row set) in
      let t : least_below (black_row black w) h ≤ y = least_le (black_row black w) h (pixel_row_lem x y column set) in
      let b : y ≤ greatest_below (black_row black w) h = le_greatest (black_row black w) h row (pixel_row_lem x y column set) in
      let rm : greatest_below (black_column black h) w < w = greatest_lt (black_column black h) w (omega arith) in
      let bm : greatest_below (black_row black w) h < h = greatest_lt (black_row black w) h (omega arith) in
      record { wide = omega arith; high = omega arith; columns = omega arith; rows = omega arith }

  pub rectangle_within : {r : Rectangle} → Some r ≡ enclosing_rectangle black w h → Within w h r
  unfolding enclosing_rectangle
  rectangle_within {r} e = go (any_below (black_row black w) h) refl e
    where
      go : (b : Bool) → any_below (black_row black w) h ≡ b → Some r ≡ cond b (Some (rectangle_of black w h)) None → Within w h r
      go true some same =
          let row = any_witness (black_row black w) h some in
          let pixel = any_witness (λ i. black i row.0) w row.2 in
          subst (Within w h) (sym (ap (if_black r (λ q. q)) same)) (within_of pixel.0 row.0 pixel.1 row.1 pixel.2)
      go false some same = absurd (false≢true (ap (if_black true (λ q. false)) same))

-- pixels that agree inside give the same
module _ (black other : ℕ → ℕ → Bool) (w h : ℕ) (agree : (x y : ℕ) → x < w → y < h → black x y ≡ other x y) where
  row_same : (y : ℕ) → y < h → black_row black w y ≡ black_row other w y
  row_same y row = any_same (λ x. black x y) (λ x. other x y) w λ x column. agree x y column row

  column_same : (x : ℕ) → x < w → black_column black h x ≡ black_column other h x
  column_same x column = any_same (λ y. black x y) (λ y. other x y) h λ y row. agree x y column row

  pub rectangle_same : enclosing_rectangle black w h ≡ enclosing_rectangle other w h
  unfolding enclosing_rectangle
  rectangle_same =
      rw (
        any_same (black_row black w) (black_row other w) h row_same,
        least_same (black_column black h) (black_column other h) w column_same,
        greatest_same (black_column black h) (black_column other h) w column_same,
        least_same (black_row black w) (black_row other w) h row_same,
        greatest_same (black_row black w) (black_row other w) h row_same,
      ) refl
