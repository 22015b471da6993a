-- What holds of the sum of the runs, and of those from one on: one pixel more in a run, the first run dropped, and that no run is longer. Assumes nothing.
use Rattle.std.proofs.Common.{ℕ, zero, suc, ◌+◌, ◌≤◌, ◌<◌, ◌≡◌, refl, List, [], ◌∷◌, ◌++◌, length, get_or, drop, arith, ap, ◌∙◌, drop_of_length-le, drop-set-lt}
use Rattle.std.proofs.lemmas.List.{drop-append-le}
use Rattle.reads.specs.Total.{total}
use Rattle.detector_widths.specs.Buckets.{bump}
use Rattle.detector_widths.specs.Widths.{even_total, odd_total}
use Rattle.detector_window.specs.Window.{without_first}

-- one pixel more in run `at`, which is one of those from i on
pub total_bump : (buckets : List ℕ) (at i : ℕ) → i ≤ at → at < length buckets → total (drop i (bump buckets at)) ≡ total (drop i buckets) + 1
unfolding total bump
total_bump [] at i low h = absurd (omega arith)
total_bump (n ∷ ns) zero zero low h = omega arith
total_bump (n ∷ ns) zero (suc i) low h = absurd (omega arith)
total_bump (n ∷ ns) (suc at) zero low h =
    let rest : total (bump ns at) ≡ total ns + 1 = total_bump ns at 0 (omega arith) (omega arith) in
    omega (arith, rest)
total_bump (n ∷ ns) (suc at) (suc i) low h = total_bump ns at i (omega arith) (omega arith)

-- one pixel more in a run before them
pub total_bump_before : (buckets : List ℕ) (at i : ℕ) → at < i → total (drop i (bump buckets at)) ≡ total (drop i buckets)
unfolding bump
total_bump_before buckets at i h = ap total (drop-set-lt i buckets at (get_or buckets at 0 + 1) h)

total_last : (buckets : List ℕ) → total (buckets ++ 1 ∷ []) ≡ total buckets + 1
unfolding total
total_last [] = refl
total_last (n ∷ ns) = omega (arith, total_last ns)

-- the first run dropped
pub total_without : (buckets : List ℕ) (i : ℕ) → i < length buckets → total (drop i (without_first buckets)) ≡ total (drop (suc i) buckets) + 1
total_without [] i h = absurd (omega arith)
total_without (n ∷ ns) i h = ap total (drop-append-le i ns (1 ∷ []) (omega arith)) ∙ total_last (drop i ns)

-- no run is left
pub total_past : (buckets : List ℕ) (i : ℕ) → length buckets ≤ i → total (drop i buckets) ≡ 0
unfolding total
total_past buckets i h = ap total (drop_of_length-le buckets h)

-- run n, and those after it
pub total_from : (buckets : List ℕ) (n : ℕ) → total (drop n buckets) ≡ get_or buckets n 0 + total (drop (suc n) buckets)
unfolding total
total_from [] zero = refl
total_from [] (suc n) = refl
total_from (b ∷ bs) zero = refl
total_from (b ∷ bs) (suc n) = total_from bs n

-- the runs from i on are no more than all
pub total_drop : (buckets : List ℕ) (i : ℕ) → total (drop i buckets) ≤ total buckets
unfolding total
total_drop buckets zero = omega arith
total_drop [] (suc i) = omega arith
total_drop (n ∷ ns) (suc i) = omega (arith, total_drop ns i)

-- no run is longer than all
pub at_most_total : (buckets : List ℕ) (i : ℕ) → get_or buckets i 0 ≤ total buckets
at_most_total buckets i = omega (arith, total_from buckets i, total_drop buckets i)

-- runs with a pixel each
pub total_positive : (buckets : List ℕ) → ((i : ℕ) → i < length buckets → 0 < get_or buckets i 0) → length buckets ≤ total buckets
unfolding total
total_positive [] some = omega arith
total_positive (n ∷ ns) some = omega (arith, some 0 (omega arith), total_positive ns (λ i h. some (suc i) (omega arith)))

pub parts_total : (buckets : List ℕ) → even_total buckets + odd_total buckets ≤ total buckets
parts_total buckets =
    let from = total_from buckets in
    omega (arith, from 0, from 1, from 2, from 3, from 4, from 5, from 6, from 7, from 8, from 9, from 10)
