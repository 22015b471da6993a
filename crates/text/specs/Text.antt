-- Numbers as text, and text put into a buffer from a place on. Definitions only. Assumes nothing.
use Rattle.std.specs.Prelude.{ℕ, zero, suc, ◌+◌, ◌^◌, ◌≤◌, cond, List, [], ◌∷◌, ◌++◌, ◌≡◌, ltb, length, take, drop}
use Prim.Native.Char.{code}
use Prim.Native.String.{String}
use Rattle.io.specs.Digits.{last_digits}

-- the codes of a text
abbrev pub ascii : String → List ℕ
ascii String.[] = []
ascii (String.◌∷◌ c s) = code c ∷ ascii s

-- how many decimal digits a number has that is below the k + 1st power of ten
unfoldable pub places : ℕ → ℕ → ℕ
places zero n = 1
places (suc k) n = cond (ltb n (10 ^ suc k)) (places k n) (suc (suc k))

-- a number below 2 ^ 32 in decimal, with no zero in front, and in eight hexadecimal digits
unfoldable pub decimal_of : ℕ → List ℕ
decimal_of n = last_digits 10 (places 9 n) n

unfoldable pub hex_of : ℕ → List ℕ
hex_of n = last_digits 16 8 n

-- the text is put at `at`: what stands before and after it stays, and `next` is the place after it. The last two fields
-- stand there so that the proof that Rattle makes of `&buf[..next]` finds them.
pub record Puts (text : List ℕ) (at : ℕ) (before : List ℕ) (next : ℕ) (after : List ℕ) : Type 0 where
  pub end : next ≡ at + length text
  pub front : take next after ≡ take at before ++ text
  pub rest : drop next after ≡ drop next before
  pub size : length after ≡ length before
  pub room : next ≤ length after
  pub part : next ≡ length (take next after)
