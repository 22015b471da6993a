-- What the clauses of functions name. Assumes nothing.
use Rattle.std.specs.Prelude.{ℕ, ◌-◌, ◌≤◌, ◌<◌}
use Rattle.reads.specs.Reads.{Reads}
use Rattle.bit_matrix.specs.declared.Shape.{Shape}
use Rattle.bit_matrix.specs.ShapeClauses.{Inside}
use Rattle.detector_widths.specs.Widths.{valid_widths}
use Rattle.detector_candidate.specs.declared.Searched.{Searched}
use Rattle.detector_candidate.specs.Candidate.{search_by}

-- a search's start: a pixel of the image, six columns or more from each side
pub record Searchable (shape : Shape) (row column : ℕ) : Type 0 where
  pub inside : Inside shape column row
  pub left : 6 ≤ column
  pub right : column < shape.width - 6

abbrev pub search_from : Shape → ℕ → ℕ → Reads Searched
search_from = search_by valid_widths
