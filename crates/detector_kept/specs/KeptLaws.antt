-- What holds of the ranked records, by what holds of each candidate; they are no more than the candidates (`ranked_few`), and any two of them are in order
-- (`ranked_sorted`). Assumes nothing.
use Rattle.std.specs.Prelude.{ℕ, suc, ◌≤◌, Bool, true, false, cond, ◌≡◌, List, [], ◌∷◌, map, length}
use Rattle.std.proofs.Common.{arith}
use Rattle.std.proofs.lemmas.List.{length-map}
use Rattle.records.specs.Records.{Record, rows, filter}
use Rattle.records.specs.RecordsClauses.{Each}
use Rattle.records.specs.RecordsLaws.{rows_whole, each_both, each_filter, each_map}
use Rattle.detector_sort.specs.SortLaws.{Sorted, permutes_length, sort_each}
use Rattle.detector_variances.specs.Variances.{with_variance}
use Rattle.detector_rank.specs.Rank.{lower, rank}
use Rattle.detector_variances.specs.VariancesClauses.{Small, UnsignedVariance}
use Rattle.detector_rank.specs.RankLaws.{rank_ranks}
use Rattle.detector_variances.specs.VariancesLaws.{varied_unsigned}
use Rattle.detector_kept.specs.declared.Spread.{Spread}
use Rattle.detector_kept.specs.Spread.{spread}
use Rattle.detector_kept.specs.Retain.{near, retain}
use Rattle.detector_kept.specs.KeptClauses.{Candidates}
use Rattle.detector_kept.specs.Kept.{ranked}

-- what the kept records hold once they have their variance
each_varied : (P Q : Record → Type 0) → ((r : Record) → P r → Q (with_variance r))
    → (s : Spread) (rs : List Record) → Each P rs → Each Q (map with_variance (retain s rs))
each_varied P Q gives s rs each = each_map P Q with_variance gives (retain s rs) (each_filter P (near s) rs each)

pub each_ranked : (P Q : Record → Type 0) → ((r : Record) → P r → Q (with_variance r)) → (rs : List Record) → Each P rs → Each Q (ranked rs)
unfolding ranked rank
each_ranked P Q gives rs each = sort_each lower Q (map with_variance (retain (spread rs) rs)) (each_varied P Q gives (spread rs) rs each)

-- no more are kept than there are candidates
filter_few : {A : Type 0} (p : A → Bool) (xs : List A) → length (filter p xs) ≤ length xs
unfolding filter
filter_few p [] = omega arith
filter_few {A} p (x ∷ xs) = pick (p x) (filter p xs) (filter_few p xs)
  where
    pick : (b : Bool) (rest : List A) → length rest ≤ length xs → length (cond b (x ∷ rest) rest) ≤ suc (length xs)
    pick true rest h = omega arith
    pick false rest h = omega arith

pub ranked_few : (rs : List Record) → length (ranked rs) ≤ length rs
unfolding ranked
ranked_few rs =
    let kept : List Record = retain (spread rs) rs in
    let varied : List Record = map with_variance kept in
    omega (arith, permutes_length (rank_ranks varied).permutes, length-map kept with_variance, filter_few (near (spread rs)) rs)

-- any two of the ranked candidates are in order: no variance is a NaN
pub ranked_sorted : (found : ℕ) (records : List ℕ) → Candidates found records → Sorted lower (ranked (rows found records))
unfolding ranked
ranked_sorted found records held =
    let rs : List Record = rows found records in
    (rank_ranks (map with_variance (retain (spread rs) rs))).sorted
    (each_varied (λ (r : Record). (length r ≡ 40) × Small r) UnsignedVariance varied_unsigned (spread rs) rs
    (each_both (λ (r : Record). length r ≡ 40) Small rs (rows_whole found records held.held) held.small))
