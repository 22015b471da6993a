-- Bits of a file's bytes as the private functions below `unpack` take them: eight bytes at a time, each byte's lowest bit first, and then each byte
-- reversed. Assumes nothing.
use Rattle.std.specs.Prelude.{ℕ, ◌+◌, ◌*◌, ◌-◌, ◌/◌, ◌%◌, ◌^◌, Bool, List, get_or, bit_and, bit_or}
use Rattle.reads.specs.Bits.{test_bit}

-- bit k of the bytes from `from` on
abbrev pub byte_bit : List ℕ → ℕ → ℕ → Bool
byte_bit file from k = test_bit (get_or file (from + k / 8) 0) (k % 8)

-- the place of bit k where each byte is reversed
abbrev pub mirrored : ℕ → ℕ
mirrored k = 8 * (k / 8) + (7 - k % 8)

-- groups of d bits, those of the mask m and those above them, that change places in a word of 64 bits
abbrev pub swap : ℕ → ℕ → ℕ → ℕ
swap x d m = bit_or (bit_and (x / 2 ^ d) m) (bit_and x m * 2 ^ d % 2 ^ 64)
