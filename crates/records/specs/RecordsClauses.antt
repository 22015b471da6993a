-- What the clauses of functions name. Assumes nothing.
use Rattle.std.specs.Prelude.{ℕ, ◌+◌, ◌*◌, ◌≡◌, List, [], ◌∷◌, ◌++◌, take, drop}
use Rattle.records.specs.Records.{Record, rows}

-- record i
unfoldable pub get : List ℕ → ℕ → Record
get l i = take 40 (drop (40 * i) l)

-- r in the place of record i
unfoldable pub put : List ℕ → ℕ → Record → List ℕ
put l i r = take (40 * i) l ++ r ++ drop (40 * i + 40) l

-- The first n records of `before` have become rs, and the words beyond them are as they were.
pub record Became (n : ℕ) (before : List ℕ) (rs : List Record) (after : List ℕ) : Type 0 where
  pub records : rows n after ≡ rs
  pub rest : drop (40 * n) after ≡ drop (40 * n) before

-- P holds of each element
unfoldable pub Each : {A : Type 0} → (A → Type 0) → List A → Type 0
Each P [] = Unit
Each P (x ∷ xs) = P x × Each P xs
