-- The steps of `keep_and_rank`, one after the other. Assumes nothing.
use Rattle.std.proofs.Common.{ℕ, ◌+◌, ◌-◌, ◌*◌, ◌≤◌, arith, ◌≡◌, sym, ap, ap₂, ◌∙◌, List, ◌++◌, map, append_assoc, length, take, drop, replicate}
use Rattle.records.specs.Records.{Record, rows, flat, laid_out}
use Rattle.records.specs.RecordsClauses.{Became, Each}
use Rattle.records.specs.RecordsLaws.{length_rows, take_flat, rows_front, drop_later, each_filter, each_map, each_both, rows_whole}
use Rattle.detector_kept.specs.Spread.{spread}
use Rattle.detector_kept.specs.Retain.{near, retain}
use Rattle.detector_kept.specs.KeptClauses.{Retained, Candidates, KeptAndRanked}
use Rattle.detector_variances.specs.Variances.{with_variance}
use Rattle.detector_rank.specs.Rank.{rank}
use Rattle.detector_variances.specs.VariancesClauses.{Small, UnsignedVariance}
use Rattle.detector_rank.specs.RankClauses.{Rankable}
use Rattle.detector_variances.specs.VariancesLaws.{varied_unsigned}
use Rattle.detector_kept.specs.Kept.{ranked}
use Rattle.detector_kept.specs.declared.Spread.{Spread}

module _ {found : ℕ} {l₀ : List ℕ} (held : Candidates found l₀) {s : Spread} {kept : ℕ} {l₁ : List ℕ} (retained : Retained found s l₀ kept l₁) where
  pub small : Each Small (rows kept l₁)
  small = rw retained.records (each_filter Small (near s) (rows found l₀) held.small)

  pub rankable : (l₂ : List ℕ) → Became kept l₁ (map with_variance (rows kept l₁)) l₂ → 40 * kept ≤ length l₁ → length l₂ ≡ length l₁ → Rankable kept l₂
  rankable l₂ varied room sized = record {
    few = omega (arith, held.few, retained.few);
    held = omega arith;
    numbers =
        rw varied.records
        (each_map (λ (r : Record). (length r ≡ 40) × Small r) UnsignedVariance with_variance varied_unsigned (rows kept l₁)
        (each_both (λ (r : Record). length r ≡ 40) Small (rows kept l₁) (rows_whole kept l₁ room) small));
  }

  -- the capacity holds the candidates, and the buffer holds the capacity
  module _ (capacity : ℕ) (enough : found ≤ capacity) (room : 40 * capacity ≤ length l₀) where
    below : kept ≤ capacity
    below = omega (arith, retained.few)

    module _ (spreads : s ≡ spread (rows found l₀)) (l₂ : List ℕ) (varied : Became kept l₁ (map with_variance (rows kept l₁)) l₂)
        (l₃ : List ℕ) (sorted : Became kept l₂ (rank (rows kept l₂)) l₃) where
      records_are : rows kept l₃ ≡ ranked (rows found l₀)
      unfolding ranked
      records_are =
          sorted.records
          ∙ ap rank (varied.records ∙ ap (map with_variance) (retained.records ∙ ap (λ (t : Spread). retain t (rows found l₀)) spreads))

      rest_is : drop (40 * capacity) l₃ ≡ drop (40 * capacity) l₀
      rest_is =
          drop_later l₃ l₁ (40 * kept) (40 * capacity) (omega (arith, below)) (sorted.rest ∙ varied.rest)
          ∙ drop_later l₁ l₀ (40 * found) (40 * capacity) (omega arith) retained.rest

      counts : kept ≡ length (ranked (rows found l₀))
      counts = sym (length_rows kept l₃) ∙ ap length records_are

      pub composed : length l₃ ≡ length l₀ → (l₄ : List ℕ)
          → l₄ ≡ take (40 * kept) l₃ ++ replicate (40 * (capacity - kept)) 0 ++ drop (40 * kept + 40 * (capacity - kept)) l₃
          → KeptAndRanked found capacity l₀ kept l₄
      unfolding laid_out
      composed sized₃ l₄ cleared = record {
        counted = counts;
        few = retained.few;
        written =
            let end : 40 * kept + 40 * (capacity - kept) ≡ 40 * capacity = omega (arith, below) in
            cleared
            ∙ ap₂ (λ (a b : List ℕ). a ++ replicate (40 * (capacity - kept)) 0 ++ b) (take_flat kept l₃ ∙ ap flat records_are)
            (ap (λ (m : ℕ). drop m l₃) end ∙ rest_is)
            ∙ ap (λ (k : ℕ). flat (ranked (rows found l₀)) ++ replicate (40 * (capacity - k)) 0 ++ drop (40 * capacity) l₀) counts;
        records = ap (rows kept) (cleared ∙ append_assoc (take (40 * kept) l₃) _ _) ∙ rows_front kept l₃ _ (omega (arith, below)) ∙ records_are;
      }
