-- `try_get_area` of bit_matrix.rs with size 3: the pixels about a pixel, in order, and whether at least half of them are black. Assumes nothing.
use Rattle.std.specs.Prelude.{ℕ, ◌+◌, ◌-◌, ◌*◌, leb, length, Bool, Option, None, Some, List, [], ◌∷◌, map}
use Rattle.std.specs.Option.{option_map_or}
use mathlib.Core.List.{flat_map}
use Rattle.reads.specs.Reads.{Reads, done, ◌>>=◌}
use Rattle.reads.specs.Bits.{digit, range}
use Rattle.bit_matrix.specs.declared.Shape.{Shape}
use Rattle.bit_matrix.specs.Pixels.{try_get}

-- a pixel's column and row
abbrev pub Cell : Type 0
Cell = ℕ × ℕ

-- the pixels of column x from row `from` up to, not including, row `to`
abbrev pub column : ℕ → ℕ → ℕ → List Cell
column x from to = map (λ (y : ℕ). (x, y)) (range from (to - from))

-- those of the columns from `left` up to, not including, `right`, one after another
abbrev pub box : ℕ → ℕ → ℕ → ℕ → List Cell
box left right from to = flat_map (λ (x : ℕ). column x from to) (range left (right - left))

-- three by three about a pixel; at column or row 0 there is nothing before it
abbrev pub about : ℕ → ℕ → List Cell
about x y = box (x - 1) (x + 2) (y - 1) (y + 2)

module _ (shape : Shape) where
  -- how many pixels of a list are black, beside those counted before, unless one is outside: no later one is looked at then
  unfoldable pub count_black : List Cell → ℕ → Reads (Option ℕ)
  count_black [] n = done (Some n)
  count_black (cell ∷ cells) n = do
    sample ← try_get shape cell.0 cell.1
    option_map_or (λ black. count_black cells (n + digit black)) sample (done None)

  -- at least half of them black
  unfoldable pub try_get_area : ℕ → ℕ → Reads (Option Bool)
  try_get_area x y = do
    counted ← count_black (about x y) 0
    option_map_or (λ n. done (Some (leb (length (about x y)) (2 * n)))) counted (done None)
