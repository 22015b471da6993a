-- A list of words as a list of records of 40 words. Definitions only. Assumes nothing.
use Rattle.std.specs.Prelude.{ℕ, zero, suc, ◌-◌, ◌*◌, ◌/◌, min, Bool, cond, List, [], ◌∷◌, ◌++◌, length, take, drop, replicate}

abbrev pub Record : Type 0
Record = List ℕ

-- how many records a buffer of n words may hold
abbrev pub capacity_of : ℕ → ℕ
capacity_of n = min 1024 (n / 40)

-- the first n records of l
unfoldable pub rows : ℕ → List ℕ → List Record
rows zero l = []
rows (suc n) l = take 40 l ∷ rows n (drop 40 l)

-- the words of the records, one record after the other
unfoldable pub flat : List Record → List ℕ
flat [] = []
flat (r ∷ rs) = r ++ flat rs

-- a buffer afterwards: the records rs, zeros up to the capacity, and the rest as it was
unfoldable pub laid_out : ℕ → List Record → List ℕ → List ℕ
laid_out capacity rs before = flat rs ++ replicate (40 * (capacity - length rs)) 0 ++ drop (40 * capacity) before

-- the elements at which p is true, in their order
unfoldable pub filter : {A : Type 0} → (A → Bool) → List A → List A
filter p [] = []
filter p (x ∷ xs) = let rest = filter p xs in cond (p x) (x ∷ rest) rest
