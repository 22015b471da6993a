-- Where the colour changes in a row. Definitions only. Assumes nothing.
use Rattle.std.specs.Prelude.{ℕ, suc, ◌+◌, ◌*◌, ◌≤◌, ◌<◌, Bool, true, false, ◌≡◌, List}
use Rattle.std.specs.Bool.{xor}
use Rattle.reads.specs.Bits.{test_bit, bit_at}

-- column x of the row whose first word is `first`; white past the last word
abbrev pub row_bit : List ℕ → ℕ → ℕ → Bool
row_bit words first x = bit_at words (first * 64 + x)

-- each bit from `from` up to `end` is white, and bit `end` is black, unless it is the last
pub record FirstBlack (image : ℕ → Bool) (from to end : ℕ) : Type 0 where
  pub after : from ≤ end
  pub within : end ≤ to
  pub white : (k : ℕ) → from ≤ k → k < end → image k ≡ false
  pub black : end < to → image end ≡ true

-- bit j of v tells whether bit `from + j` differs from the one before it, for n bits; `colour` is that of the bit before the first
pub record Changes (image : ℕ → Bool) (colour : Bool) (from n v : ℕ) : Type 0 where
  pub first : 0 < n → test_bit v 0 ≡ xor (image from) colour
  pub later : (j : ℕ) → suc j < n → test_bit v (suc j) ≡ xor (image (from + suc j)) (image (from + j))
