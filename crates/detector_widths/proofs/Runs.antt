-- The even runs, and the odd ones but run 5, as the code lists them. Assumes nothing.
use Rattle.std.proofs.Common.{◌≡◌, ℕ, List, [], ◌∷◌, sum, ap, arith}
use Rattle.detector_widths.specs.Widths.{at, even_total, odd_total, even_runs_pass, odd_runs_pass}
use Rattle.detector_widths.specs.WidthsClauses.{runs_pass}

abbrev pub even : List ℕ → List ℕ
even xs = at xs 0 ∷ at xs 2 ∷ at xs 4 ∷ at xs 6 ∷ at xs 8 ∷ at xs 10 ∷ []

abbrev pub odd : List ℕ → List ℕ
odd xs = at xs 1 ∷ at xs 3 ∷ at xs 7 ∷ at xs 9 ∷ []

pub even_runs : (xs : List ℕ) (total : ℕ) → total ≡ sum (even xs) → runs_pass total (even xs) ≡ even_runs_pass xs
unfolding even_runs_pass
even_runs xs total e =
    let same : total ≡ even_total xs = omega arith in
    ap (λ (total : ℕ). runs_pass total (even xs)) same

pub odd_runs : (xs : List ℕ) (total : ℕ) → total ≡ sum (odd xs) → runs_pass total (odd xs) ≡ odd_runs_pass xs
unfolding odd_runs_pass
odd_runs xs total e =
    let same : total ≡ odd_total xs = omega arith in
    ap (λ (total : ℕ). runs_pass total (odd xs)) same
