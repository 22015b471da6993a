-- The number of marked bits. Assumes nothing.
use Rattle.std.specs.Prelude.{ℕ, List, sum_by}
use Rattle.std.specs.Int.Count.{ones}

-- the number of one bits in the words
abbrev pub ones_of : List ℕ → ℕ
ones_of words = sum_by ones words
