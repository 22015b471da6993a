-- Near pairs, inputs that the rules tell apart by little, as one table: a field for each case says what a step's definition gives. `cases` proves the
-- table, by computation. Assumes nothing.
use Rattle.std.specs.Prelude.{ℕ, ◌+◌, ◌*◌, ◌-◌, ◌/◌, ◌%◌, ◌^◌, Bool, true, false, ◌≡◌, refl, eqb, set, replicate, drop, Option, Some, None, List, [], ◌∷◌, ◌++◌, map}
use mathlib.Core.List.{flat_map}
use Rattle.std.specs.Int.Count.{ones}
use Rattle.std.specs.Float.Ieee.{size, round, of_bits, of_int, add, sub, mul, div, lt, to_unsigned, to_signed}
use Rattle.ieee.specs.Sign.{abs}
use Rattle.ieee.specs.Units.{units_of}
use Rattle.ieee_sqrt.specs.Sqrt.{root_by, isqrt, round_root, sqrt}
use Rattle.ieee.specs.Integral.{floor}
use Rattle.reads.specs.Reads.{◌>>=◌, value}
use Rattle.reads.specs.Bits.{test_bit, bit_at, range}
use Rattle.reads.specs.Runs.{value_of}
use Rattle.bit_matrix.specs.Shape.{shape_of}
use Rattle.bit_matrix.specs.Pixels.{pixel, try_get}
use Rattle.bit_matrix_area.specs.Area.{count_black, try_get_area}
use Rattle.rxing_result_point.specs.Points.{real}
use Rattle.detector_widths.specs.Widths.{even_runs_pass, odd_runs_pass, valid_widths}
use Rattle.detector_widths.specs.Buckets.{bump}
use Rattle.reads.specs.Total.{total}
use Rattle.detector_window.specs.Window.{metadata}
use Rattle.detector_rows.specs.Rows.{skip_white, next_bullseye_by}
use Rattle.detector_first_window.specs.FirstWindow.{window_by}
use Rattle.detector_rows.specs.RowsClauses.{next_bullseye}
use Rattle.detector_window.specs.declared.Bullseye.{Bullseye}
use Rattle.detector_variance.specs.Variance.{width_to, tenth_of_width, further, variance_to, expected_area, area_variance, circle_variance}
use Rattle.records.specs.Records.{Record, filter}
use Rattle.detector_kept.specs.Spread.{mean, with_square, squares, deviation, axis, spread}
use Rattle.detector_kept.specs.Retain.{near, retain}
use Rattle.detector_kept.specs.Kept.{ranked}
use Rattle.detector_sort.specs.Sort.{insert, sort}
use Rattle.detector_rank.specs.Rank.{rank}
use Rattle.detector_variances.specs.Variances.{with_variance}
use Rattle.detector_verdict.specs.Verdict.{verdict_of, verdict}
use Rattle.detector_size.specs.Size.{ideal_side, guessed_size, plain_size}
use Rattle.detector_boundary.specs.Boundary.{left_shift, right_shift, boundary_of, plain_boundary}
use Rattle.detector_boundary.specs.declared.Boundary.{Boundary}
use Rattle.detector_points.specs.Orientation.{point, adjusted_point}
use Rattle.detector_walks.specs.declared.Width.{Width}
use Rattle.detector_ellipse.specs.Ellipse.{longest, shortest, linear_eccentricity, check_ellipse_point, in_ellipse, four_fifths}
use Rattle.detector_outcome.specs.Outcomes.{quarter_of, class_of, turned_by, not_turned, lost_at, ellipse_at}
use Rattle.rxing_result_point.specs.declared.PointU.{PointU}
use Rattle.crop_padding.specs.Below.{any_below, firsts, number}
use Rattle.bit_matrix_rectangle.specs.Rectangle.{least_below, greatest_below, enclosing_rectangle}
use Rattle.detector_cells.specs.Cells.{CellsRun, cells_run, read_bits}

-- eleven runs of one length
abbrev pub equal : ℕ → List ℕ
equal run = replicate 11 run

-- the first window of row 6, of 33 columns and rows of one word each, where the row has six black pixels, one white one between two, the first at a column
abbrev pub window_of : ℕ → Option Bullseye
window_of first = value_of (next_bullseye (shape_of 33 33) 6 6) (replicate 6 0 ++ 0x555 * 2 ^ first ∷ replicate 26 0)

-- the area at a pixel, of 33 columns and rows of one word each; the list gives the first rows, and the others are white
abbrev pub area_at : ℕ → ℕ → List ℕ → Option Bool
area_at x y words = value_of (try_get_area (shape_of 33 33) x y) words

-- the numbers below n with so many one bits: arrangements of black pixels, a bit each
abbrev pub with_ones : ℕ → ℕ → List ℕ
with_ones count n = filter (λ (a : ℕ). eqb (ones a) count) (range 0 n)

-- an arrangement of four pixels at (0, 0), two in a row, and of nine about (1, 1), three in a row
abbrev pub area_of_four : ℕ → Option Bool
area_of_four a = area_at 0 0 (a % 2 ^ 2 ∷ a / 2 ^ 2 ∷ [])

abbrev pub area_of_nine : ℕ → Option Bool
area_of_nine a = area_at 1 1 (a % 2 ^ 3 ∷ a / 2 ^ 3 % 2 ^ 3 ∷ a / 2 ^ 6 ∷ [])

-- the candidates within the deviation
abbrev pub kept_of : List Record → List Record
kept_of rs = retain (spread rs) rs

-- three candidates by their centres, as the rows of one bull's-eye give them; the last one's column is x
abbrev pub three_rows : ℕ → List ℕ → List ℕ → List ℕ → List Record
three_rows x a b d = (93 ∷ 90 ∷ a) ∷ (93 ∷ 92 ∷ b) ∷ (x ∷ 94 ∷ d) ∷ []

-- boundaries 60 wide and 66 high, the left one at 0
abbrev pub raised : ℕ → Boundary
raised bottom = record { left = 0; right = 60; top = bottom + 66; bottom = bottom }

-- the cells of 33 columns and so many rows of one word each; the list gives the first rows, and the others are white
abbrev pub cells_in : ℕ → List ℕ → List ℕ → CellsRun
cells_in height rows cells = read_bits (shape_of 33 height) rows cells

-- a row of pixels, and one of cells, that are all black
abbrev pub full_row : ℕ
full_row = 2 ^ 33 - 1

abbrev pub full_cells : ℕ
full_cells = 2 ^ 30 - 1

-- 33 rows of cells, even and odd ones by turns
abbrev pub by_turns_of : ℕ → ℕ → List ℕ
by_turns_of even odd = flat_map (λ (k : ℕ). even ∷ odd ∷ []) (range 0 16) ++ even ∷ []

-- a row that is black at the first and the last of 30 columns; and the cells of 33 such rows, odd ones read half a cell further right
abbrev pub two_columns : ℕ
two_columns = 2 ^ 29 + 1

abbrev pub by_turns : List ℕ
by_turns = by_turns_of two_columns (3 * 2 ^ 28)

-- a width of so many steps, and those of a short one between two long ones
abbrev pub width_of_steps : ℕ → Width
width_of_steps steps = record { length = steps; left = record { x = real 0; y = real 0 }; right = record { x = real 0; y = real 0 } }

abbrev pub long_and_short : ℕ → ℕ → List Width
long_and_short long short = map width_of_steps (long ∷ short ∷ long ∷ [])

-- whether the point (x, y) passes about (20, 20), for these half axes
abbrev pub passes_at : ℕ → ℕ → ℕ × ℕ → Bool
passes_at major minor p = in_ellipse (point 20 20) major minor (record { x = real p.0; y = real p.1 })

pub record Cases : Type 0 where
  -- eleven runs
  pub runs_all_1 : valid_widths (equal 1) ≡ true
  pub even_run_1_among_2s : map (λ k. valid_widths (set (equal 2) k 1)) (0 ∷ 2 ∷ 4 ∷ 6 ∷ 8 ∷ 10 ∷ []) ≡ replicate 6 false
  pub odd_runs_3_2_2_2 : map (λ k. valid_widths (set (equal 2) k 3)) (1 ∷ 3 ∷ 7 ∷ 9 ∷ []) ≡ replicate 4 false
  -- width 33, runs of one pixel
  pub runs_from_15 : window_of 15 ≡ Some (record { center = 20; radius = 6; buckets = equal 1 })
  pub runs_from_16 : window_of 16 ≡ None
  -- areas, in every arrangement
  pub two_of_four : map area_of_four (with_ones 2 (2 ^ 4)) ≡ replicate 6 (Some true)
  pub one_of_four : map area_of_four (with_ones 1 (2 ^ 4)) ≡ replicate 4 (Some false)
  pub five_of_nine : map area_of_nine (with_ones 5 (2 ^ 9)) ≡ replicate 126 (Some true)
  pub four_of_nine : map area_of_nine (with_ones 4 (2 ^ 9)) ≡ replicate 126 (Some false)
  -- row and column runs
  pub runs_all_10 : circle_variance (equal 10) (equal 10) ≡ real 10
  -- three candidates by their centres, whatever their other words a, b and d: the deviation of y is the root of 8 / 3, 1
  pub second_kept : (a b d : List ℕ) → kept_of ((50 ∷ 20 ∷ a) ∷ (50 ∷ 22 ∷ b) ∷ (50 ∷ 24 ∷ d) ∷ []) ≡ (50 ∷ 22 ∷ b) ∷ []
  -- the last one a column to the left: the mean column is 92 and its deviation 0, so two are set aside by x, and the last by y; room for all, and for one less
  pub all_set_aside : (a b d : List ℕ) → verdict 3 (three_rows 92 a b d) ≡ verdict_of 9 (three_rows 92 a b d) []
  pub one_too_many : (a b d : List ℕ) → verdict 2 (three_rows 92 a b d) ≡ verdict_of 7 (three_rows 92 a b d) []
  pub one_below_another : (a b d : List ℕ) → verdict 3 (three_rows 93 a b d) ≡ verdict_of 0 (three_rows 93 a b d) (with_variance (93 ∷ 92 ∷ b) ∷ [])
  pub none_found : verdict 3 [] ≡ verdict_of 8 [] []
  -- radius 6; about (60, 60) in 120 by 120
  pub radius_6_size : plain_size 6 ≡ record { width = 42; height = 42 }
  pub radius_6_boundary : plain_boundary (shape_of 120 120) (point 60 60) 6 ≡ record { left = 41; right = 82; top = 81; bottom = 39 }
  -- with the bottom at 50 the row is past the cap
  pub bottom_0 : adjusted_point (raised 0) (point 10 9) ≡ point 22 19
  pub bottom_50 : adjusted_point (raised 50) (point 10 9) ≡ point 22 65
  -- classes of turns, and of what has none about the same centre
  pub turn_0 : (scale : ℕ) (center : PointU) → class_of (turned_by 0 scale center) ≡ 0
  pub without_turn : (scale : ℕ) (center : PointU) → map class_of (not_turned center ∷ lost_at scale center ∷ ellipse_at center ∷ []) ≡ replicate 3 4
  pub turn_44 : (scale : ℕ) (center : PointU) → class_of (turned_by 44 scale center) ≡ 0
  pub turn_46 : (scale : ℕ) (center : PointU) → class_of (turned_by 46 scale center) ≡ 1
  pub turn_348 : (scale : ℕ) (center : PointU) → class_of (turned_by 348 scale center) ≡ 0
  -- the longest length 9 and the shortest 8 have equal halves, and 8 and 7 have not
  pub lengths_9_and_8 : linear_eccentricity (long_and_short 9 8) ≡ 0
  pub lengths_8_and_7 : linear_eccentricity (long_and_short 8 7) ≡ 2
  -- of 144 points
  pub good_116 : four_fifths 116 ≡ true
  pub good_115 : four_fifths 115 ≡ false
  -- half axes 5 and 3: on the ellipse and just outside it, in the centre's row and in its column; and a zero by a zero, where the shorter half is 0
  pub points_by_5_and_3 : map (passes_at 5 3) ((25, 20) ∷ (26, 20) ∷ (20, 23) ∷ (20, 24) ∷ []) ≡ true ∷ false ∷ true ∷ false ∷ []
  pub points_by_5_and_0 : map (passes_at 5 0) ((20, 20) ∷ (25, 20) ∷ (26, 20) ∷ (20, 21) ∷ []) ≡ true ∷ true ∷ true ∷ false ∷ []
  -- cells, whatever was lent for them: a pixel alone is its own rectangle, and the cap takes the row to 0
  pub all_white : (cells : List ℕ) → cells_in 33 [] cells ≡ cells_run 10 cells
  pub pixel_in_row_0 : (cells : List ℕ) → cells_in 33 (2 ^ 5 ∷ []) cells ≡ cells_run 0 (replicate 33 full_cells)
  pub pixel_in_row_1 : (cells : List ℕ) → cells_in 33 (0 ∷ 2 ^ 5 ∷ []) cells ≡ cells_run 0 (replicate 33 0)
  pub row_40_alone : (cells : List ℕ) → cells_in 41 (replicate 40 0 ++ full_row ∷ []) cells ≡ cells_run 0 (replicate 33 0)
  pub all_black : (cells : List ℕ) → cells_in 33 (replicate 33 full_row) cells ≡ cells_run 0 (replicate 33 full_cells)
  -- a rectangle at the left edge, and three columns on
  pub left_edge : (cells : List ℕ) → cells_in 33 (replicate 33 two_columns) cells ≡ cells_run 0 by_turns
  pub three_columns_on : (cells : List ℕ) → cells_in 33 (replicate 33 (two_columns * 2 ^ 3)) cells ≡ cells_run 0 by_turns
  -- 33 columns, black at the first, at column 10 or 11, and at the last: the half cells are rounded down each by itself
  pub column_10 : (cells : List ℕ) → cells_in 33 (replicate 33 (2 ^ 32 + 2 ^ 10 + 1)) cells ≡ cells_run 0 (by_turns_of (2 ^ 29 + 2 ^ 9 + 1) (2 ^ 29 + 2 ^ 9))
  pub column_11 : (cells : List ℕ) → cells_in 33 (replicate 33 (2 ^ 32 + 2 ^ 11 + 1)) cells ≡ cells_run 0 (by_turns_of (2 ^ 29 + 2 ^ 10 + 1) (2 ^ 29))
  -- two rows, the first of them black: half a row is added before the division by 33
  pub two_rows : (cells : List ℕ)
      → cells_in 33 (full_row ∷ (2 ^ 32 + 1) ∷ []) cells ≡ cells_run 0 (replicate 16 full_cells ++ drop 16 (by_turns_of (2 ^ 29 + 1) (2 ^ 29)))
  -- black rows 0 and 32, and the same a row further down, where row 33 is not reached
  pub rows_0_and_32 : (cells : List ℕ)
      → cells_in 34 (full_row ∷ replicate 31 0 ++ full_row ∷ []) cells ≡ cells_run 0 (full_cells ∷ replicate 31 0 ++ full_cells ∷ [])
  pub rows_1_and_33 : (cells : List ℕ) → cells_in 34 (0 ∷ full_row ∷ replicate 31 0 ++ full_row ∷ []) cells ≡ cells_run 0 (full_cells ∷ replicate 32 0)

pub cases : Cases
unfolding ones size round of_bits of_int add sub mul div to_unsigned to_signed abs floor units_of root_by isqrt round_root sqrt
    ◌>>=◌ value test_bit bit_at range value_of flat_map pixel try_get count_black try_get_area
    even_runs_pass odd_runs_pass valid_widths bump total metadata skip_white window_by next_bullseye_by
    width_to tenth_of_width further variance_to expected_area area_variance circle_variance filter mean with_square squares deviation axis spread near
    lt longest shortest linear_eccentricity check_ellipse_point in_ellipse any_below firsts number least_below greatest_below enclosing_rectangle read_bits
    insert sort rank ranked verdict ideal_side guessed_size left_shift right_shift boundary_of adjusted_point quarter_of
cases = record {
  runs_all_1 = refl;
  even_run_1_among_2s = refl;
  odd_runs_3_2_2_2 = refl;
  runs_from_15 = refl;
  runs_from_16 = refl;
  two_of_four = refl;
  one_of_four = refl;
  five_of_nine = refl;
  four_of_nine = refl;
  runs_all_10 = refl;
  second_kept = λ a b d. refl;
  all_set_aside = λ a b d. refl;
  one_too_many = λ a b d. refl;
  one_below_another = λ a b d. refl;
  none_found = refl;
  radius_6_size = refl;
  radius_6_boundary = refl;
  bottom_0 = refl;
  bottom_50 = refl;
  turn_0 = λ scale center. refl;
  without_turn = λ scale center. refl;
  turn_44 = λ scale center. refl;
  turn_46 = λ scale center. refl;
  turn_348 = λ scale center. refl;
  lengths_9_and_8 = refl;
  lengths_8_and_7 = refl;
  good_116 = refl;
  good_115 = refl;
  points_by_5_and_3 = refl;
  points_by_5_and_0 = refl;
  all_white = λ cells. refl;
  pixel_in_row_0 = λ cells. refl;
  pixel_in_row_1 = λ cells. refl;
  row_40_alone = λ cells. refl;
  all_black = λ cells. refl;
  left_edge = λ cells. refl;
  three_columns_on = λ cells. refl;
  column_10 = λ cells. refl;
  column_11 = λ cells. refl;
  two_rows = λ cells. refl;
  rows_0_and_32 = λ cells. refl;
  rows_1_and_33 = λ cells. refl;
}
