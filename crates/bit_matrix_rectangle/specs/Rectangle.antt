-- The enclosing rectangle of the black pixels, by pixels: docs/MANUAL.md, "The cells of a symbol". Here w and h are an image's width and height, and
-- `black x y` tells whether the pixel at column x of row y is black. Definitions only. Assumes nothing.
use Rattle.std.specs.Prelude.{ℕ, zero, suc, ◌+◌, ◌-◌, Bool, cond, List, Option, Some, None}
use Rattle.reads.specs.Runs.{value_of}
use Rattle.bit_matrix.specs.declared.Shape.{Shape}
use Rattle.bit_matrix.specs.Pixels.{pixel}
use Rattle.crop_padding.specs.Below.{any_below}
use Rattle.bit_matrix_rectangle.specs.declared.Rectangle.{Rectangle}

-- the pixels of an image, as `get` answers
abbrev pub black_at : Shape → List ℕ → ℕ → ℕ → Bool
black_at shape words x y = value_of (pixel shape x y) words

-- the least number below n of which p holds, or n
unfoldable pub least_below : (ℕ → Bool) → ℕ → ℕ
least_below p zero = 0
least_below p (suc n) = cond (p 0) 0 (suc (least_below (λ k. p (suc k)) n))

-- the greatest number below n of which p holds, or 0
unfoldable pub greatest_below : (ℕ → Bool) → ℕ → ℕ
greatest_below p zero = 0
greatest_below p (suc n) = cond (p n) n (greatest_below p n)

-- a column, and a row, with a black pixel
abbrev pub black_column : (ℕ → ℕ → Bool) → ℕ → ℕ → Bool
black_column black h x = any_below (λ y. black x y) h

abbrev pub black_row : (ℕ → ℕ → Bool) → ℕ → ℕ → Bool
black_row black w y = any_below (λ x. black x y) w

-- from the least column and row with a black pixel to the greatest
abbrev pub rectangle_of : (ℕ → ℕ → Bool) → ℕ → ℕ → Rectangle
rectangle_of black w h =
    let left : ℕ = least_below (black_column black h) w in
    let top : ℕ = least_below (black_row black w) h in
    record {
      left = left;
      top = top;
      width = greatest_below (black_column black h) w - left + 1;
      height = greatest_below (black_row black w) h - top + 1;
    }

-- `getEnclosingRectangle`: none when no row has a black pixel
unfoldable pub enclosing_rectangle : (ℕ → ℕ → Bool) → ℕ → ℕ → Option Rectangle
enclosing_rectangle black w h = cond (any_below (black_row black w) h) (Some (rectangle_of black w h)) None

-- by cases on what it answers
abbrev pub if_black : {B : Type 0} → B → (Rectangle → B) → Option Rectangle → B
if_black none some None = none
if_black none some (Some r) = some r
