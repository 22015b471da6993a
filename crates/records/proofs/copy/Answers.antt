-- `records::copy` meets its contract.
use Rattle.std.proofs.Common.{ℕ, ◌+◌, ◌*◌, ◌≡◌, sym, ap, ◌∙◌, List, ◌++◌, append_assoc, take, drop, take-append-drop, drop-drop}
use Rattle.records.specs.Records.{Record}
use Rattle.records.specs.RecordsClauses.{get, put}
use Rattle.records.proofs.copy.Goals as goal

-- a record in its own place
put_same : (l : List ℕ) (i : ℕ) → put l i (get l i) ≡ l
unfolding get put
put_same l i =
    let n : ℕ = 40 * i in
    append_assoc (take n l) (take 40 (drop n l)) (drop (n + 40) l)
    ∙ ap (λ (t : List ℕ). take n l ++ (take 40 (drop n l) ++ t)) (sym (drop-drop 40 n l))
    ∙ ap (λ (t : List ℕ). take n l ++ t) (take-append-drop 40 (drop n l))
    ∙ take-append-drop n l

in_place : (l : List ℕ) (i j : ℕ) → i ≡ j → l ≡ put l j (get l i)
in_place l i j e = sym (put_same l j) ∙ ap (λ (k : ℕ). put l j (get l k)) (sym e)

copied : (l l' : List ℕ) (i j : ℕ) (fields : Record) → fields ≡ get l i → l' ≡ put l j fields → l' ≡ put l j (get l i)
copied l l' i j fields e stored = stored ∙ ap (put l j) e

pub returns-then-i-j : goal.returns-then-i-j
returns-then-i-j c = search in_place

pub returns : goal.returns
returns c = search copied
