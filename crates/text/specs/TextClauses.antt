-- What the clauses of functions name. Assumes nothing.
use Rattle.std.specs.Prelude.{ℕ, ◌+◌, ◌≤◌, List, ◌≡◌, length}
use Rattle.text.specs.Text.{Puts}
use Rattle.text.specs.declared.Text.{Text}

-- there is room for n bytes more
abbrev pub HasRoom : ℕ → Text → Type 0
HasRoom n t = t.len + n ≤ length t.buf.now

-- nothing is written yet into the buffer that is lent
pub record Begun (lent : List ℕ) (t : Text) : Type 0 where
  pub len : t.len ≡ 0
  pub buf : t.buf.now ≡ lent

-- the bytes are put behind the text, in the same buffer
pub record Wrote (bytes : List ℕ) (before after : Text) : Type 0 where
  pub puts : Puts bytes before.len before.buf.now after.len after.buf.now
  pub same : after.buf.ghost_name ≡ before.buf.ghost_name

-- at most n bytes were put behind the text
abbrev pub Grown : ℕ → Text → Text → Type 0
Grown n before after = (after.len ≤ before.len + n) × (length after.buf.now ≡ length before.buf.now)
