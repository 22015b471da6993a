-- A buffer that is filled read by read. Assumes nothing.
use Rattle.std.proofs.Common.{ℕ, ◌+◌, ◌≤◌, List, ◌++◌, ◌≡◌, sym, ap, subst, ◌∙◌, length, take, length-take-le}
use Rattle.std.proofs.lemmas.List.{take-append-le}
use Rattle.std.proofs.Math.Seq.{take-append-add}
use borrow.Rule.Slice.PartMut.{put_mid, post_of}
use Rattle.std.specs.Prelude.{Option}
use Rattle.std.specs.Io.KnownBytes.{Consumes}
use Rattle.std.proofs.KnownBytes.{Consumes-trans}

-- n more bytes stand in the part that was read into
pub take_filled : (done n k : ℕ) (buf part : List ℕ) → done ≤ length buf → n ≤ length part
    → take (done + n) (put_mid done k buf part) ≡ take done buf ++ take n part
take_filled done n k buf part inside few =
    let rest : List ℕ = part ++ post_of done k buf in
    ap (λ (m : ℕ). take (m + n) (take done buf ++ rest)) (sym (length-take-le done buf inside)) ∙ take-append-add (take done buf) rest n
    ∙ ap (λ (l : List ℕ). take done buf ++ l) (take-append-le n part (post_of done k buf) few)

pub consumes_filled : (a b c : Option (List ℕ)) (done m n k : ℕ) (buf part : List ℕ) → m ≡ done + n → done ≤ length buf → n ≤ length part
    → Consumes a b (take done buf) → Consumes b c (take n part) → Consumes a c (take m (put_mid done k buf part))
consumes_filled a b c done m n k buf part e inside few before read =
    let text : take m (put_mid done k buf part) ≡ take done buf ++ take n part =
    ap (λ (i : ℕ). take i (put_mid done k buf part)) e ∙ take_filled done n k buf part inside few in
    subst (Consumes a c) (sym text) (Consumes-trans a b c _ _ before read)
