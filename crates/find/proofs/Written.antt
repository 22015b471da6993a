-- What is printed of the start that was read is what is printed of the whole input. Assumes nothing.
use Rattle.std.proofs.Common.{ℕ, ◌≤◌, ◌<◌, arith, Bool, true, false, List, [], ◌++◌, append-nil, ◌≡◌, refl, sym, ap, subst, ◌∙◌, ltb, length, take, length-take-le, take_at, ltb-true, ltb-false}
use Rattle.std.specs.Prelude.{Option, None, Some, IfSome}
use Rattle.std.specs.Io.KnownBytes.{Consumes, Appends, IsAtEnd}
use Rattle.find.specs.Find.{printed}
use Rattle.find.specs.FindLaws.{printed_start}

-- n bytes were read: the whole input, or 65,536 of it
read_enough : (n : ℕ) (buf input left : List ℕ) → length buf ≡ 65536 → n ≤ length buf → input ≡ take n buf ++ left → (n < length buf → left ≡ [])
    → printed (take n buf) ≡ printed input
read_enough n buf input left room inside parts end = go (ltb n (length buf)) refl
  where
    go : (b : Bool) → ltb n (length buf) ≡ b → printed (take n buf) ≡ printed input
    go true e =
        let none : left ≡ [] = end (ltb-true _ _ e) in
        ap printed (sym (parts ∙ ap (λ (l : List ℕ). take n buf ++ l) none ∙ append-nil (take n buf)))
    go false e =
        let start : length (take n buf) ≡ 65536 = omega (arith, ltb-false _ _ e, length-take-le n buf inside) in
        ap printed (sym (ap (take 65536) parts ∙ take_at (take n buf) left 65536 start)) ∙ printed_start input

pub written : (left after old new : Option (List ℕ)) (n : ℕ) (buf text : List ℕ) → length buf ≡ 65536 → n ≤ length buf → Consumes left after (take n buf)
    → (n < length buf → IsAtEnd after) → text ≡ printed (take n buf) → Appends old new text → IfSome left (λ input. Appends old new (printed input))
written None after old new n buf text room inside read end is puts = tt
written (Some input) None old new n buf text room inside read end is puts = absurd read
written (Some input) (Some left) old new n buf text room inside read end is puts =
    subst (Appends old new) (is ∙ read_enough n buf input left room inside read end) puts
