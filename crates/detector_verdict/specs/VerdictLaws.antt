-- What the counts are, by the answer; so no more are kept than the capacity (`counted_few`). Assumes nothing.
use Rattle.std.specs.Prelude.{ℕ, ◌+◌, ◌≤◌, ◌<◌, Bool, true, false, List, [], ◌∷◌, ◌⊎◌, ◌≡◌, refl, ltb, eqb, length}
use Rattle.std.proofs.Common.{arith, inl, inr, ⊎_elim, ltb-true, ltb-false, eqb-true}
use Rattle.std.proofs.lemmas.Bool.{eqb-false}
use Rattle.records.specs.Records.{Record}
use Rattle.records.specs.RecordsClauses.{Each}
use Rattle.detector_kept.specs.Kept.{ranked}
use Rattle.detector_kept.specs.KeptLaws.{ranked_few}
use Rattle.detector_verdict.specs.Verdict.{Numbers, Verdict, verdict_of, verdict}

-- the answer is 0, 7, 8 or 9; with 0 some of those found are kept, and no more were found than the capacity; with 7 one more was found, with 8 none, with 9
-- some within the capacity, and none is kept
pub record Counted (capacity : ℕ) (c : Numbers) : Type 0 where
  pub answers : (c.answer ≡ 0) ⊎ (c.answer ≡ 7) ⊎ (c.answer ≡ 8) ⊎ (c.answer ≡ 9)
  pub zero : c.answer ≡ 0 → (c.found ≤ capacity) × (c.kept ≤ c.found) × (0 < c.kept)
  pub seven : c.answer ≡ 7 → (c.found ≡ capacity + 1) × (c.kept ≡ 0)
  pub eight : c.answer ≡ 8 → (c.found ≡ 0) × (c.kept ≡ 0)
  pub nine : c.answer ≡ 9 → (0 < c.found) × (c.found ≤ capacity) × (c.kept ≡ 0)

-- what holds with each answer holds of the verdict
by_answer : (capacity : ℕ) (candidates : List Record) (P : Verdict → Type 0)
    → (capacity < length candidates → P (verdict_of 7 candidates []))
    → (length candidates ≡ 0 → P (verdict_of 8 candidates []))
    → (length candidates ≤ capacity → 0 < length candidates → length (ranked candidates) ≡ 0 → P (verdict_of 9 candidates []))
    → (length candidates ≤ capacity → 0 < length (ranked candidates) → P (verdict_of 0 candidates (ranked candidates)))
    → P (verdict capacity candidates)
unfolding verdict
by_answer capacity candidates P seven eight nine zero =
    go (ltb capacity (length candidates)) (eqb (length candidates) 0) (eqb (length (ranked candidates)) 0) refl refl refl
  where
    go : (more none aside : Bool) → ltb capacity (length candidates) ≡ more → eqb (length candidates) 0 ≡ none
        → eqb (length (ranked candidates)) 0 ≡ aside → P (verdict capacity candidates)
    go true none aside e f g = rw e (seven (ltb-true _ _ e))
    go false true aside e f g = rw (e, f) (eight (eqb-true _ _ f))
    go false false true e f g =
        let some : length candidates ≡ 0 → ⊥ = eqb-false _ _ f in
        rw (e, f, g) (nine (ltb-false _ _ e) (omega arith) (eqb-true _ _ g))
    go false false false e f g =
        let some : length (ranked candidates) ≡ 0 → ⊥ = eqb-false _ _ g in
        rw (e, f, g) (zero (ltb-false _ _ e) (omega arith))

pub verdict_counted : (capacity : ℕ) (candidates : List Record) → length candidates ≤ capacity + 1 → Counted capacity (verdict capacity candidates).counts
verdict_counted capacity candidates few = by_answer capacity candidates (λ v. Counted capacity v.counts)
    (λ above. record {
      answers = inr (inl refl);
      zero = λ z. absurd (omega arith);
      seven = λ z. (omega arith, refl);
      eight = λ z. absurd (omega arith);
      nine = λ z. absurd (omega arith);
    })
    (λ none. record {
      answers = inr (inr (inl refl));
      zero = λ z. absurd (omega arith);
      seven = λ z. absurd (omega arith);
      eight = λ z. (none, refl);
      nine = λ z. absurd (omega arith);
    })
    (λ below some aside. record {
      answers = inr (inr (inr refl));
      zero = λ z. absurd (omega arith);
      seven = λ z. absurd (omega arith);
      eight = λ z. absurd (omega arith);
      nine = λ z. (some, below, refl);
    })
    (λ below kept. record {
      answers = inl refl;
      zero = λ z. (below, ranked_few candidates, kept);
      seven = λ z. absurd (omega arith);
      eight = λ z. absurd (omega arith);
      nine = λ z. absurd (omega arith);
    })

-- whichever the answer, there is room for the records that are kept
pub counted_few : {capacity : ℕ} {c : Numbers} → Counted capacity c → c.kept ≤ capacity
counted_few {capacity} {c} counted =
    ⊎_elim (λ e. omega (arith, counted.zero e))
    (⊎_elim (λ e. omega (arith, counted.seven e)) (⊎_elim (λ e. omega (arith, counted.eight e)) (λ e. omega (arith, counted.nine e)))) counted.answers

-- ---- the kept records

pub no_records : (rs : List Record) → length rs ≤ 0 → rs ≡ []
no_records [] h = refl
no_records (r ∷ rs) h = absurd (omega arith)

module _ (capacity : ℕ) (candidates : List Record) where
  -- as many as counted
  pub kept_counted : (verdict capacity candidates).counts.kept ≡ length (verdict capacity candidates).kept
  kept_counted = by_answer capacity candidates (λ v. v.counts.kept ≡ length v.kept) (λ _. refl) (λ _. refl) (λ _ _ _. refl) (λ _ _. refl)

  -- what holds of each candidate within the deviation holds of each that is kept
  pub each_kept : (P : Record → Type 0) → Each P (ranked candidates) → Each P (verdict capacity candidates).kept
  unfolding Each
  each_kept P each = by_answer capacity candidates (λ v. Each P v.kept) (λ _. tt) (λ _. tt) (λ _ _ _. tt) (λ _ _. each)
