-- The pixel of a cell of the symbol's 30 columns and 33 rows; and the points that are tested for a turn, as cells and as pixels. Definitions only.
-- Assumes nothing.
use Rattle.std.specs.Prelude.{ℕ, ◌+◌, ◌-◌, ◌*◌, ◌/◌, ◌%◌, min, List, [], ◌∷◌, map}
use Rattle.rxing_result_point.specs.declared.PointU.{PointU}
use Rattle.detector_boundary.specs.declared.Boundary.{Boundary}

abbrev pub point : ℕ → ℕ → PointU
point x y = record { x = x; y = y }

-- a symbol's columns and rows of cells
abbrev pub matrix_width : ℕ
matrix_width = 30

abbrev pub matrix_height : ℕ
matrix_height = 33

-- `ix`, a cell's pixel column: odd rows lie half a cell to the right, and the cap comes before the left column is added
abbrev pub pixel_column : ℕ → ℕ → ℕ → ℕ → ℕ
pixel_column x y left width = left + min ((x * width + width / 2 + y % 2 * width / 2) / matrix_width) (width - 1)

-- `iy`, a cell's pixel row: the cap comes after the first row is added
abbrev pub pixel_row : ℕ → ℕ → ℕ → ℕ
pixel_row y first height = min (first + (y * height + height / 2) / matrix_height) (height - 1)

-- `adjust_point_alternate`
unfoldable pub adjusted_point : Boundary → PointU → PointU
adjusted_point b p = record {
  x = pixel_column p.x p.y b.left (b.right - b.left);
  y = pixel_row p.y b.bottom (b.top - b.bottom);
}

-- `get_adjusted_points`
abbrev pub adjusted_points : Boundary → List PointU → List PointU
adjusted_points b cells = map (adjusted_point b) cells

-- docs/MANUAL.md, "How a search decides": the groups top left, top right, left, right, bottom left, bottom right
abbrev pub orientation_cells : List (List PointU)
orientation_cells =
    (point 10 9 ∷ point 11 9 ∷ point 11 10 ∷ [])
    ∷ (point 17 9 ∷ point 17 10 ∷ point 18 10 ∷ [])
    ∷ (point 7 15 ∷ point 7 16 ∷ point 8 16 ∷ [])
    ∷ (point 20 16 ∷ point 21 16 ∷ point 20 17 ∷ [])
    ∷ (point 10 22 ∷ point 11 22 ∷ point 10 23 ∷ [])
    ∷ (point 17 22 ∷ point 16 23 ∷ point 17 23 ∷ [])
    ∷ []

-- the six groups of a boundary
unfoldable pub orientation_points : Boundary → List (List PointU)
orientation_points b = map (adjusted_points b) orientation_cells
