-- `crop_rows::unpack_rows` meets its contract. The invariants: the words of the rows so far, and in a row those of the columns so far, are stored, and the
-- rest is as it was.
use Rattle.std.specs.Prelude.{ℕ, ◌+◌, ◌*◌, List, ◌++◌, ◌≡◌, length, drop}
use Rattle.crop_padding.specs.Below.{firsts}
use Rattle.crop_rows.specs.Unpack.{word_of}
use Rattle.crop_rows.proofs.unpack_rows.Given as goal

-- the words before i are stored
pub record Storing (file words₀ : List ℕ) (width : ℕ) (words : List ℕ) (i : ℕ) : Type 0 where
  pub stored : words ≡ firsts (word_of file width) i ++ drop i words₀
  pub sized : length words ≡ length words₀

abbrev pub invariant-loop-y : goal.invariant-loop-y
invariant-loop-y l = Storing l.file l.initial.words l.fn.shape.width l.words (l.y * l.row)

abbrev pub invariant-loop-x : goal.invariant-loop-x
invariant-loop-x l = Storing l.file l.fn.words l.fn.shape.width l.words (l.y * l.row + l.x)
