-- A list in chunks of 40 words is its records. Assumes nothing.
use Rattle.std.specs.Prelude.{ℕ, zero, suc, ◌≤◌, ◌/◌, refl, length, ◌*◌, ◌≡◌, List, [], ◌∷◌, take, drop}
use Rattle.std.proofs.Common.{arith, sym, ap, ◌∙◌, append-nil, length-take-le}
use Rattle.records.specs.RecordsLaws.{rows_front}
use Rattle.std.specs.Simd.{first_chunks}
use Rattle.records.specs.Records.{rows}

-- chunks of 40 words are records
chunked : (n : ℕ) (l : List ℕ) → first_chunks 40 n l ≡ rows n l
unfolding rows
chunked zero l = refl
chunked (suc n) l = ap (λ (rs : List (List ℕ)). take 40 l ∷ rs) (chunked n (drop 40 l))

pub front_rows : (n : ℕ) (l : List ℕ) → 40 * n ≤ length l → first_chunks 40 (length (take (40 * n) l) / 40) (take (40 * n) l) ≡ rows n l
front_rows n l h =
    let count : length (take (40 * n) l) / 40 ≡ n = rw (length-take-le (40 * n) l h) (omega arith) in
    ap (λ (k : ℕ). first_chunks 40 k (take (40 * n) l)) count ∙ chunked n (take (40 * n) l)
    ∙ ap (rows n) (sym (append-nil (take (40 * n) l))) ∙ rows_front n l [] h
