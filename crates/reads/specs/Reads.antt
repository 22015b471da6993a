-- Reading programs: a step of the search as a decision tree over the stored bits of an image, written in do-notation.
-- Value and trace come from the one tree, so a program sees nothing of an image but the bits in its trace. No program mentions marks.
-- Assumes nothing.
use Rattle.std.specs.Prelude.{ℕ, Bool, List, [], ◌∷◌}

-- a result, or the read of one stored bit, by its index, and the program that goes on from the bit's value
pub data Reads (A : Type 0) : Type 0 where
  done : A → Reads A
  read : ℕ → (Bool → Reads A) → Reads A

infixl 20 ◌>>=◌
-- in sequence: do-notation stands for it
unfoldable pub ◌>>=◌ : {A B : Type 0} → Reads A → (A → Reads B) → Reads B
◌>>=◌ (done a) k = k a
◌>>=◌ (read i next) k = read i λ b. next b >>= k

-- the result on an image
unfoldable pub value : {A : Type 0} → Reads A → (ℕ → Bool) → A
value (done a) image = a
value (read i next) image = value (next (image i)) image

-- the bits read on an image, in order
unfoldable pub trace : {A : Type 0} → Reads A → (ℕ → Bool) → List ℕ
trace (done a) image = []
trace (read i next) image = i ∷ trace (next (image i)) image
