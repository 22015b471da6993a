-- What the clauses of functions name. Assumes nothing.
use Rattle.std.specs.Prelude.{Bool, true, ◌&&◌, List, [], ◌∷◌, ltb}
use Rattle.rxing_result_point.specs.declared.PointU.{PointU}
use Rattle.detector_points.specs.Orientation.{matrix_width, matrix_height}

-- whether a point is a cell of the symbol, of 30 columns and 33 rows; and whether all of a list are
abbrev pub is_cell : PointU → Bool
is_cell p = ltb p.x matrix_width && ltb p.y matrix_height

abbrev pub are_cells : List PointU → Bool
are_cells [] = true
are_cells (p ∷ ps) = is_cell p && are_cells ps
