-- What the functions say that take an area by whole words. Assumes nothing.
use Rattle.std.specs.Prelude.{ℕ, ◌+◌, ◌-◌, ◌*◌, ◌/◌, ◌%◌, ◌≤◌, ◌<◌, Bool, ◌≡◌, leb, length, List, [], ◌∷◌}
use mathlib.Core.List.{flat_map}
use Rattle.reads.specs.Bits.{digit, bit_at, mark_all, range}
use Rattle.bit_matrix.specs.declared.Shape.{Shape}

-- how many bits of a list are set
unfoldable pub set_bits : List ℕ → List ℕ → ℕ
set_bits words [] = 0
set_bits words (i ∷ is) = digit (bit_at words i) + set_bits words is

-- the bits of a list as a number, the first as its lowest digit
unfoldable pub packed : List ℕ → List ℕ → ℕ
packed words [] = 0
packed words (i ∷ is) = digit (bit_at words i) + 2 * packed words is

-- how many of the three digits of a number below 8 are set
abbrev pub ones : ℕ → ℕ
ones n = n % 2 + n / 2 % 2 + n / 4

-- the bits of a list are taken, and marked
pub record TakenBits (words before is : List ℕ) (taken : ℕ) (after : List ℕ) : Type 0 where
  pub bits : taken ≡ packed words is
  pub marked : after ≡ mark_all before is

-- whether at least half of the bits of a list are set; they are marked
pub record HalfBlack (words before is : List ℕ) (half : Bool) (after : List ℕ) : Type 0 where
  pub black : half ≡ leb (length is) (2 * set_bits words is)
  pub marked : after ≡ mark_all before is

-- columns x to x + 2 of row y
abbrev pub three_of : Shape → ℕ → ℕ → List ℕ
three_of shape x y = range (y * shape.row_words * 64 + x) 3

-- the same of rows y to y + 2
abbrev pub nine_of : Shape → ℕ → ℕ → List ℕ
nine_of shape x y = flat_map (three_of shape x) (range y 3)

-- the nine pixels about (x, y) lie inside, and in each row the three lie in one word
pub record InWords (shape : Shape) (x y : ℕ) : Type 0 where
  pub left : 0 < x
  pub right : x + 1 < shape.width
  pub top : 0 < y
  pub bottom : y + 1 < shape.height
  pub place : 3 + (x - 1) % 64 ≤ 64
