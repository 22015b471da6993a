-- The vertical check on images of one word in a row, by computation. Assumes nothing.
use Rattle.std.specs.Prelude.{ℕ, Ok, Err, List, [], ◌∷◌, ◌≡◌, refl}
use Rattle.reads.specs.Reads.{Reads, ◌>>=◌, value, trace}
use Rattle.reads.specs.Bits.{test_bit, bit_at}
use Rattle.reads.specs.Runs.{value_of}
use Rattle.bit_matrix.specs.Shape.{shape_of}
use Rattle.bit_matrix.specs.Pixels.{pixel}
use Rattle.detector_widths.specs.Widths.{even_runs_pass, odd_runs_pass, valid_widths}
use Rattle.detector_widths.specs.Buckets.{bump}
use Rattle.detector_columns.specs.Columns.{Verified, rows_left, vector_from, column_vector, potential_bullseye, try_column_by, try_columns_by}
use Rattle.detector_columns.specs.ColumnsClauses.{verify_bullseye_vertical}

-- twelve rows, black at column 1 in each second row
abbrev stripes : List ℕ
stripes = 2 ∷ 0 ∷ 2 ∷ 0 ∷ 2 ∷ 0 ∷ 2 ∷ 0 ∷ 2 ∷ 0 ∷ 2 ∷ 0 ∷ []

abbrev verify_at : ℕ → Reads Verified
verify_at column = verify_bullseye_vertical (shape_of 64 12) 6 column

-- from the black pixel in row 6: run 5 is 0, and runs 4 and 6 both count row 6
abbrev from_black : Verified
from_black = Ok (1 ∷ 1 ∷ 1 ∷ 1 ∷ 1 ∷ 0 ∷ 1 ∷ 1 ∷ 1 ∷ 1 ∷ 1 ∷ [])

pub from_black_lem : value_of (verify_at 1) stripes ≡ from_black
unfolding value_of value ◌>>=◌ test_bit bit_at pixel even_runs_pass odd_runs_pass valid_widths
    bump rows_left vector_from column_vector potential_bullseye try_column_by try_columns_by
from_black_lem = refl

-- up and then down: rows 11 and 1, which open the seventh runs, are read; row 0 is not
pub seventh_run_read : trace (verify_at 1) (bit_at stripes) ≡ 385 ∷ 449 ∷ 513 ∷ 577 ∷ 641 ∷ 705 ∷ 385 ∷ 321 ∷ 257 ∷ 193 ∷ 129 ∷ 65 ∷ []
unfolding value trace ◌>>=◌ test_bit bit_at pixel even_runs_pass odd_runs_pass valid_widths
    bump rows_left vector_from column_vector potential_bullseye try_column_by try_columns_by
seventh_run_read = refl

-- from the column after it and the one before it the same is found
pub nudged : (value_of (verify_at 2) stripes ≡ from_black) × (value_of (verify_at 0) stripes ≡ from_black)
unfolding value_of value ◌>>=◌ test_bit bit_at pixel even_runs_pass odd_runs_pass valid_widths
    bump rows_left vector_from column_vector potential_bullseye try_column_by try_columns_by
nudged = (refl, refl)

-- twelve rows, black at column 1 in each
abbrev bars : List ℕ
bars = 2 ∷ 2 ∷ 2 ∷ 2 ∷ 2 ∷ 2 ∷ 2 ∷ 2 ∷ 2 ∷ 2 ∷ 2 ∷ 2 ∷ []

-- neither the white columns 2 and 3 pass nor column 1, and the runs are those of column 1
pub last_stands : value_of (verify_at 2) bars ≡ Err (0 ∷ 0 ∷ 0 ∷ 0 ∷ 6 ∷ 0 ∷ 6 ∷ 0 ∷ 0 ∷ 0 ∷ 0 ∷ [])
unfolding value_of value ◌>>=◌ test_bit bit_at pixel even_runs_pass odd_runs_pass valid_widths
    bump rows_left vector_from column_vector potential_bullseye try_column_by try_columns_by
last_stands = refl
