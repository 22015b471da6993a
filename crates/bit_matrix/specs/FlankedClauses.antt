-- What the clauses of functions name: a pixel between black ones of its row. Assumes nothing.
use Rattle.std.specs.Prelude.{ℕ, ◌<◌, Bool, true, ◌≡◌}
use Rattle.reads.specs.Reads.{value}
use Rattle.bit_matrix.specs.declared.Shape.{Shape}
use Rattle.bit_matrix.specs.Pixels.{pixel}

-- on this image row y has a black pixel on each side of column x, the one on the right inside the width
pub record Flanked (shape : Shape) (image : ℕ → Bool) (x y : ℕ) : Type 0 where
  pub left : ℕ
  pub left_before : left < x
  pub left_black : value (pixel shape left y) image ≡ true
  pub right : ℕ
  pub right_after : x < right
  pub right_inside : right < shape.width
  pub right_black : value (pixel shape right y) image ≡ true
