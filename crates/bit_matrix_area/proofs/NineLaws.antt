-- An area taken by whole words is the area pixel by pixel: nine bits row by row as column by column. Assumes nothing.
use Rattle.std.proofs.Common.{Some, ℕ, zero, suc, ◌+◌, ◌-◌, ◌*◌, ◌≤◌, ◌<◌, Bool, List, [], ◌∷◌, ◌++◌, map, ◌≡◌, refl, ap, ap₂, ◌∙◌, add_assoc, add-zero, arith, lt-ltb, length}
use mathlib.Core.List.{flat_map}
use Rattle.reads.specs.Bits.{digit, bit_at, mark, mark_all, range}
use Rattle.reads.proofs.BitsLaws.{length_mark}
use Rattle.reads.proofs.OrderLaws.{transposed}
use Rattle.reads.specs.RunsClauses.{Ran}
use Rattle.reads.proofs.RunsLaws.{ran_done, ran_bind, ran_then}
use Rattle.bit_matrix.specs.declared.Shape.{Shape}
use Rattle.bit_matrix.specs.Shape.{size}
use Rattle.bit_matrix.specs.ShapeClauses as shapes
use Rattle.bit_matrix.specs.Pixels.{try_get}
use Rattle.bit_matrix.specs.PixelsLaws.{ran_pixel}
use Rattle.bit_matrix_nine.specs.AreaWords.{set_bits, HalfBlack, three_of, nine_of, InWords}
use Rattle.bit_matrix_area.specs.Area.{Cell, count_black, try_get_area}

-- ---- nine pixels

-- every pixel of a list lies inside
unfoldable AllInside : Shape → List Cell → Type 0
AllInside shape [] = Unit {0}
AllInside shape (cell ∷ cells) = shapes.Inside shape cell.0 cell.1 × AllInside shape cells

module _ (words : List ℕ) (shape : Shape) (full : length words ≡ size shape) where
  -- a pixel's flat index
  abbrev flat : Cell → ℕ
  flat cell = cell.1 * shape.row_words * 64 + cell.0

  ran_inside : (marks : List ℕ) (x y : ℕ) → length marks ≡ length words → shapes.Inside shape x y
      → Ran (try_get shape x y) words marks (Some (bit_at words (y * shape.row_words * 64 + x))) (mark marks (y * shape.row_words * 64 + x))
  unfolding try_get
  ran_inside marks x y sized inside =
      ran_then _ _ (lt-ltb x shape.width inside.column)
      (ran_then _ _ (lt-ltb y shape.height inside.row) (ran_bind _ (ran_pixel words marks shape x y full sized) (ran_done _)))

  -- pixels inside are counted and marked, each by its flat index
  count_inside : (cells : List Cell) (n : ℕ) (marks : List ℕ) → length marks ≡ length words → AllInside shape cells
      → Ran (count_black shape cells n) words marks (Some (n + set_bits words (map flat cells))) (mark_all marks (map flat cells))
  unfolding count_black set_bits mark_all AllInside
  count_inside [] n marks sized within = rw (add-zero n) (ran_done _)
  count_inside (cell ∷ cells) n marks sized (inside, rest) =
      let bit = digit (bit_at words (flat cell)) in
      rw (← add_assoc n bit (set_bits words (map flat cells)))
      (ran_bind _ (ran_inside marks cell.0 cell.1 sized inside)
      (count_inside cells (n + bit) (mark marks (flat cell)) (length_mark marks (flat cell) ∙ sized) rest))

  -- a row's columns are consecutive bits
  row_range : (n a y : ℕ) → map (λ (x : ℕ). y * shape.row_words * 64 + x) (range a n) ≡ range (y * shape.row_words * 64 + a) n
  unfolding range
  row_range zero a y = refl
  row_range (suc n) a y =
      let next : y * shape.row_words * 64 + (a + 1) ≡ y * shape.row_words * 64 + a + 1 = omega arith in
      ap (λ (l : List ℕ). (y * shape.row_words * 64 + a) ∷ l) (row_range n (a + 1) y ∙ ap (λ (i : ℕ). range i n) next)

  -- the nine pixels from (x, y) on, column by column
  abbrev square : ℕ → ℕ → List Cell
  square x y = flat_map (λ (a : ℕ). map (λ (b : ℕ). (a, b)) (range y 3)) (range x 3)

  rows_range : (n x y : ℕ) → flat_map (λ (b : ℕ). map (λ (a : ℕ). b * shape.row_words * 64 + a) (range x 3)) (range y n) ≡ flat_map
      (three_of shape x) (range y n)
  unfolding range flat_map
  rows_range zero x y = refl
  rows_range (suc n) x y = ap₂ (λ (k l : List ℕ). k ++ l) (row_range 3 x y) (rows_range n x (y + 1))

  square_marked : (marks : List ℕ) (x y : ℕ) → mark_all marks (map flat (square x y)) ≡ mark_all marks (nine_of shape x y)
  unfolding range flat_map
  square_marked marks x y =
      transposed (λ (a b : ℕ). b * shape.row_words * 64 + a) marks (range x 3) (range y 3) ∙ ap (mark_all marks) (rows_range 3 x y)

  square_black : (x y : ℕ) → set_bits words (map flat (square x y)) ≡ set_bits words (nine_of shape x y)
  unfolding range flat_map set_bits
  square_black x y = omega arith ∙ ap (set_bits words) (rows_range 3 x y)

  within_column : (x y n : ℕ) (more : List Cell) → x < shape.width → y + n ≤ shape.height → AllInside shape more
      → AllInside shape (map (λ (b : ℕ). (x, b)) (range y n) ++ more)
  unfolding range AllInside
  within_column x y zero more column rows rest = rest
  within_column x y (suc n) more column rows rest = (record { column = column; row = omega arith }, within_column x (y + 1) n more column (omega arith) rest)

  within_columns : (m x y n : ℕ) → x + m ≤ shape.width → y + n ≤ shape.height
      → AllInside shape (flat_map (λ (a : ℕ). map (λ (b : ℕ). (a, b)) (range y n)) (range x m))
  unfolding range flat_map AllInside
  within_columns zero x y n columns rows = tt
  within_columns (suc m) x y n columns rows = within_column x y n _ (omega arith) rows (within_columns m (x + 1) y n (omega arith) rows)

  -- an area that lies in words
  pub area_in_words : {marks after : List ℕ} {x y : ℕ} {half : Bool} → InWords shape x y → length marks ≡ length words
      → HalfBlack words marks (nine_of shape (x - 1) (y - 1)) half after
      → Ran (try_get_area shape x y) words marks (Some half) after
  unfolding try_get_area range flat_map
  area_in_words {marks} {after} {x} {y} {half} inside sized taken =
      let across : x + 2 - (x - 1) ≡ 3 = omega (arith, inside.left) in
      let tall : y + 2 - (y - 1) ≡ 3 = omega (arith, inside.top) in
      let within = within_columns 3 (x - 1) (y - 1) 3 (omega (arith, inside.right)) (omega (arith, inside.bottom)) in
      let n = set_bits words (nine_of shape (x - 1) (y - 1)) in
      let total : 0 + set_bits words (map flat (square (x - 1) (y - 1))) ≡ n = omega (arith, square_black (x - 1) (y - 1)) in
      let ran : Ran (count_black shape (square (x - 1) (y - 1)) 0) words marks (Some n) after =
      rw (taken.marked, ← total, ← square_marked marks (x - 1) (y - 1)) (count_inside (square (x - 1) (y - 1)) 0 marks sized within) in
      rw (taken.black, across, tall) (ran_bind _ ran (ran_done _))
