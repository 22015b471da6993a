-- What the clauses of functions name. Assumes nothing.
use Rattle.std.specs.Prelude.{◌≡◌, ℕ, ◌<◌, List, length, slice_index}

-- eleven runs, each below 2 ^ 16
pub record Short (l : List ℕ) : Type 0 where
  pub eleven : length l ≡ 11
  pub small : (k : ℕ) → slice_index l k < 65536
