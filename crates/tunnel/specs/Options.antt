-- An option under a C name. Definition only. Assumes nothing.
use Rattle.std.specs.Prelude.{ℕ, Bool, not, eqb}

-- 0 is off, any other number on
abbrev pub is_on : ℕ → Bool
is_on option = not (eqb option 0)
