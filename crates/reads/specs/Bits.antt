-- The bits of a list of 64-bit words, and bits marked in such a list. Bit i is bit i % 64 of word i / 64, counted from the least significant.
-- Assumes nothing.
use Rattle.std.specs.Prelude.{ℕ, zero, suc, ◌+◌, ◌/◌, ◌%◌, ◌^◌, Bool, not, List, [], ◌∷◌, get_or, set, replicate, eqb}
use Rattle.std.specs.Int.Bits.{bit_or}
use mir.Val.{bool_byte}

-- a bit as a number
abbrev pub digit : Bool → ℕ
digit bit = bool_byte bit

-- bit b of w is set
unfoldable pub test_bit : ℕ → ℕ → Bool
test_bit w b = not (eqb (w / 2 ^ b % 2) 0)

-- w with bit b set
unfoldable pub set_bit : ℕ → ℕ → ℕ
set_bit w b = bit_or w (2 ^ b)

-- bit i of the words; past their end it is false
unfoldable pub bit_at : List ℕ → ℕ → Bool
bit_at ws i = test_bit (get_or ws (i / 64) 0) (i % 64)

-- the words with bit i set; past their end they stay as they are
unfoldable pub mark : List ℕ → ℕ → List ℕ
mark ms i = set ms (i / 64) (set_bit (get_or ms (i / 64) 0) (i % 64))

-- each bit of a list set
unfoldable pub mark_all : List ℕ → List ℕ → List ℕ
mark_all ms [] = ms
mark_all ms (i ∷ is) = mark_all (mark ms i) is

-- n words with no bit set
abbrev pub zeros : ℕ → List ℕ
zeros n = replicate n 0

-- n numbers from i on
unfoldable pub range : ℕ → ℕ → List ℕ
range i zero = []
range i (suc n) = i ∷ range (i + 1) n
