-- The shape of an image. Definitions only. Assumes nothing.
use Rattle.std.specs.Prelude.{ℕ, ◌+◌, ◌*◌, ◌/◌}
use Rattle.bit_matrix.specs.declared.Shape.{Shape}

-- the words of a row with so many columns: ceil(width / 64)
abbrev pub row_words : ℕ → ℕ
row_words width = (width + 63) / 64

abbrev pub shape_of : ℕ → ℕ → Shape
shape_of width height = record { row_words = row_words width; width = width; height = height }

-- the words of all rows
abbrev pub size : Shape → ℕ
size shape = shape.row_words * shape.height
