-- What the clauses of functions name. Assumes nothing.
use Rattle.std.specs.Prelude.{ℕ, ◌≤◌, ◌<◌, List}
use Rattle.bit_matrix.specs.declared.Shape.{Shape}
use Rattle.bit_matrix.specs.ShapeClauses.{Inside}
use Rattle.detector_walks.specs.WalksClauses.{Lent}
use Rattle.detector_circle.specs.declared.Circle.{Circle}

-- what the scales are lent: an image, a circle whose centre lies inside, with a radius from 6 to 2,047
pub record LentCircle (shape : Shape) (words marks : List ℕ) (circle : Circle) : Type 0 where
  pub lent : Lent shape words marks circle.center
  pub least : 6 ≤ circle.radius
  pub most : circle.radius < 2048

-- a circle whose centre lies inside an image of this shape, with a radius from 6 to 2,047
pub record InsideCircle (shape : Shape) (circle : Circle) : Type 0 where
  pub inside : Inside shape circle.center.x circle.center.y
  pub least : 6 ≤ circle.radius
  pub most : circle.radius < 2048
