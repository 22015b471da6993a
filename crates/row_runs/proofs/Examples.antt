-- The rule on some rows, by computation: the row that docs/MANUAL.md draws, document 01's rows of width 33, and a run that the start cuts. Assumes nothing.
use Rattle.std.proofs.Common.{ℕ, zero, suc, ◌*◌, ◌^◌, ◌<◌, Bool, true, false, List, [], ◌∷◌, ◌++◌, map, ◌≡◌, refl, replicate, arith, Option, Some, None}
use Rattle.std.proofs.lemmas.Bool.{false≢true}
use Rattle.reads.specs.Reads.{◌>>=◌, value, trace}
use Rattle.reads.specs.Bits.{test_bit, bit_at, range}
use Rattle.bit_matrix.specs.declared.Shape.{Shape}
use Rattle.bit_matrix.specs.Shape.{shape_of}
use Rattle.bit_matrix.specs.Pixels.{pixel}
use Rattle.detector_widths.specs.Buckets.{bump}
use Rattle.detector_widths.specs.Widths.{even_runs_pass, odd_runs_pass, valid_widths}
use Rattle.detector_window.specs.declared.Bullseye.{Bullseye}
use Rattle.detector_window.specs.Window.{metadata}
use Rattle.detector_first_window.specs.FirstWindow.{window_by}
use Rattle.detector_rows.specs.Rows.{skip_white, next_bullseye_by}
use Rattle.detector_rows.specs.RowsClauses.{next_bullseye}
use Rattle.reads.specs.Total.{total}
use Rattle.row_runs.specs.RowRuns.{ColourRun, put_before, colour_runs, from_first_black, lengths, Window, Leftmost}
use Rattle.row_runs.proofs.RowSearchLaws.{eye_found, searched_runs}

-- row 0 of an image with these columns: its pixels as bits of one word
abbrev row_of : ℕ → ℕ → Bool
row_of bits = bit_at (bits ∷ [])

-- ---- the manual's row: `....#####.#...#.#.#.#.#.#.#.#......`, searched from column 6

abbrev drawn : ℕ → Bool
drawn = row_of 0x155545f0

abbrev drawn_shape : Shape
drawn_shape = shape_of 35 33

abbrev drawn_runs : List ColourRun
drawn_runs = searched_runs drawn_shape 0 6 drawn

-- black and white, n times
abbrev by_turns : ℕ → List Bool
by_turns zero = []
by_turns (suc n) = true ∷ false ∷ by_turns n

-- a window's runs of one pixel each
abbrev eye_of_ones : ℕ → Option Bullseye
eye_of_ones center = Some (record { center = center; radius = 6; buckets = replicate 11 1 })

pub record Drawn : Type 0 where
  -- the start cuts the black run of columns 4 to 8
  pub colours : map (λ r. r.colour) drawn_runs ≡ by_turns 10
  pub firsts : map (λ r. r.first) drawn_runs ≡ 6 ∷ 9 ∷ 10 ∷ 11 ∷ range 14 16
  pub pixel_counts : lengths drawn_runs ≡ 3 ∷ 1 ∷ 1 ∷ 3 ∷ replicate 15 1 ++ 6 ∷ []
  -- an even run too wide; a white run first; an odd run too wide; a white run first
  pub no_0 : ¬ Window 29 drawn_runs 0
  pub no_1 : ¬ Window 29 drawn_runs 1
  pub no_2 : ¬ Window 29 drawn_runs 2
  pub no_3 : ¬ Window 29 drawn_runs 3
  -- two windows, and eleven runs that pass and end at the limit
  pub at_4 : Window 29 drawn_runs 4
  pub at_6 : Window 29 drawn_runs 6
  pub no_8 : ¬ Window 29 drawn_runs 8
  pub leftmost_4 : Leftmost 29 drawn_runs 4
  -- the left one is found, and the columns 6 to 25 are read
  pub found : eye_found drawn_shape 0 6 drawn ≡ eye_of_ones 19
  pub reads : trace (next_bullseye drawn_shape 0 6) drawn ≡ 6 ∷ range 6 20

pub drawn_is : Drawn
unfolding put_before colour_runs from_first_black range test_bit bit_at valid_widths even_runs_pass odd_runs_pass total metadata
    ◌>>=◌ value trace pixel bump skip_white window_by next_bullseye_by
drawn_is = record {
  colours = refl;
  firsts = refl;
  pixel_counts = refl;
  no_0 = none_before 0 (omega arith);
  no_1 = none_before 1 (omega arith);
  no_2 = none_before 2 (omega arith);
  no_3 = none_before 3 (omega arith);
  at_4 = window;
  at_6 = record { black = refl; passes = refl; followed = omega arith; white = refl; below = omega arith };
  no_8 = λ w. absurd (omega (arith, w.below));
  leftmost_4 = record { window = window; none_before = none_before };
  found = refl;
  reads = refl;
}
  where
    window : Window 29 drawn_runs 4
    window = record { black = refl; passes = refl; followed = omega arith; white = refl; below = omega arith }

    none_before : (j : ℕ) → j < 4 → ¬ Window 29 drawn_runs j
    none_before zero low w = false≢true w.passes
    none_before (suc zero) low w = false≢true w.black
    none_before (suc (suc zero)) low w = false≢true w.passes
    none_before (suc (suc (suc zero))) low w = false≢true w.black
    none_before (suc (suc (suc (suc j)))) low w = absurd (omega arith)

-- ---- rows of width 33, searched from column 6 and from column 8

abbrev near_shape : Shape
near_shape = shape_of 33 33

-- six black pixels with a white one between neighbours, the first at a column
abbrev singles : ℕ → ℕ → Bool
singles first = row_of (0x555 * 2 ^ first)

-- `......###.#.#.#.#.#..............`
abbrev wide_first : ℕ → Bool
wide_first = row_of 0x555c0

pub record Near : Type 0 where
  -- closed at column 26, the last below the limit; and at the limit
  pub at_15 : Window 27 (searched_runs near_shape 0 6 (singles 15)) 0
  pub found_15 : eye_found near_shape 0 6 (singles 15) ≡ eye_of_ones 20
  pub no_16 : ¬ Window 27 (searched_runs near_shape 0 6 (singles 16)) 0
  pub none_16 : eye_found near_shape 0 6 (singles 16) ≡ None
  -- a first run of three columns is too wide; cut by the start it has one
  pub whole_run : ¬ Window 27 (searched_runs near_shape 0 6 wide_first) 0
  pub none_whole : eye_found near_shape 0 6 wide_first ≡ None
  pub cut_run : Window 27 (searched_runs near_shape 0 8 wide_first) 0
  pub found_cut : eye_found near_shape 0 8 wide_first ≡ eye_of_ones 13
  -- with no black pixel column 27 is read, the limit
  pub white_reads : trace (next_bullseye near_shape 0 6) (row_of 0) ≡ range 6 22

pub near_is : Near
unfolding put_before colour_runs from_first_black range test_bit bit_at valid_widths even_runs_pass odd_runs_pass total metadata
    ◌>>=◌ value trace pixel bump skip_white window_by next_bullseye_by
near_is = record {
  at_15 = record { black = refl; passes = refl; followed = omega arith; white = refl; below = omega arith };
  found_15 = refl;
  no_16 = λ w. absurd (omega (arith, w.below));
  none_16 = refl;
  whole_run = λ w. false≢true w.passes;
  none_whole = refl;
  cut_run = record { black = refl; passes = refl; followed = omega arith; white = refl; below = omega arith };
  found_cut = refl;
  white_reads = refl;
}
