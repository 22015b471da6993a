-- The numbers of the reasons to refuse: docs/MANUAL.md, "Answers". Assumes nothing.
use Rattle.std.specs.Prelude.{ℕ, Result, Ok, Err, ◌≡◌}
use Rattle.std.specs.Result.{IsErrAnd}
use Rattle.std.proofs.Common.{arith, ap}
use Rattle.crop_sizes.specs.declared.Refusal.{Refusal}
use Rattle.crop_sizes.specs.declared.Refusal.TheVariants.{Header, Side, Words, Length, Padding, Lent}

abbrev pub number_of : Refusal → ℕ
number_of Header = 1
number_of Side = 2
number_of Words = 3
number_of Length = 4
number_of Padding = 5
number_of Lent = 6

-- what refuses, or 0 where nothing does
abbrev pub answer_of : {A : Type 0} → Result A Refusal → ℕ
answer_of (Ok value) = 0
answer_of (Err refusal) = number_of refusal

pub number_some : (refusal : Refusal) → number_of refusal ≡ 0 → ⊥
number_some Header e = omega arith
number_some Side e = omega arith
number_some Words e = omega arith
number_some Length e = omega arith
number_some Padding e = omega arith
number_some Lent e = omega arith

-- the number that `?` passes on
pub carried : {A : Type 0} (r : Result A Refusal) (refusal : Refusal) → IsErrAnd r (λ e. e ≡ refusal) → answer_of r ≡ number_of refusal
carried (Ok value) refusal is = absurd is
carried (Err e) refusal is = ap number_of is
