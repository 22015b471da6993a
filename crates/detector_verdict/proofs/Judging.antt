-- The four ways in which `verdict` returns. Assumes nothing.
use Rattle.std.proofs.Common.{ℕ, ◌+◌, ◌-◌, ◌*◌, ◌≤◌, ◌<◌, zero-add, arith, ◌≡◌, refl, sym, ap, ap₂, ◌∙◌, List, [], ◌++◌, lt-ltb, le-ltb, eq-eqb, ne_eqb, length, take, drop, replicate}
use Rattle.records.specs.Records.{Record, rows, flat, laid_out}
use Rattle.detector_kept.specs.KeptClauses.{KeptAndRanked}
use Rattle.detector_kept.specs.Kept.{ranked}
use Rattle.detector_kept.specs.KeptLaws.{ranked_few}
use Rattle.detector_verdict.specs.VerdictLaws.{no_records}
use Rattle.detector_verdict.specs.Verdict.{Numbers, numbers_of, Verdict, verdict_of, verdict}
use Rattle.detector_verdict.specs.VerdictClauses.{Holds, Judged}
use Rattle.detector_verdict.specs.declared.Answer.TheVariants.{Kept, TooMany, NoneFound, NoneKept}
use Rattle.detector_verdict.specs.declared.Counts.{Counts}

module _ {capacity found : ℕ} {before : List ℕ} (candidates : List Record) (holds : Holds capacity found before candidates) where
  -- by an answer and the records that it keeps
  judged : {answer k : ℕ} {kept : List Record} {r : Numbers} {after : List ℕ} → verdict capacity candidates ≡ verdict_of answer candidates kept
      → r ≡ record { answer = answer; found = found; kept = k } → k ≡ length kept → after ≡ laid_out capacity kept before → rows k after ≡ kept
      → Judged capacity candidates before r after
  judged {answer} {after = after} is made many laid kept_rows = record {
    counts = made ∙ ap₂ (λ (f m : ℕ). record { answer = answer; found = f; kept = m }) holds.counted many ∙ sym (ap (λ (v : Verdict). v.counts) is);
    laid = laid ∙ sym (ap (λ (v : Verdict). laid_out capacity v.kept before) is);
    records = ap (λ (c : Numbers). rows c.kept after) made ∙ kept_rows ∙ sym (ap (λ (v : Verdict). v.kept) is);
  }

  -- one candidate too many
  pub too_many : {after : List ℕ} {r : Counts} → capacity < found → after ≡ take 0 before ++ replicate (40 * capacity) 0 ++ drop (0 + 40 * capacity) before
      → r ≡ record { answer = TooMany; found = found; kept = 0 } → Judged capacity candidates before (numbers_of r) after
  unfolding verdict laid_out flat rows
  too_many more cleared made =
      let above : capacity < length candidates = omega (arith, holds.counted) in
      let whole : 40 * capacity ≡ 40 * (capacity - 0) = omega arith in
      judged (rw (lt-ltb capacity (length candidates) above) refl) (ap numbers_of made) refl
      (cleared ∙ ap₂ (λ (k n : ℕ). replicate k 0 ++ drop n before) whole (zero-add (40 * capacity)))
      refl

  module _ (fits : found ≤ capacity) {k : ℕ} {after : List ℕ} (ranks : KeptAndRanked found capacity before k after) where
    kept_are : ranked (rows found before) ≡ ranked candidates
    kept_are = ap ranked (holds.stored fits)

    number : k ≡ length (ranked candidates)
    number = ranks.counted ∙ ap length kept_are

    laid_out_lem : after ≡ laid_out capacity (ranked candidates) before
    laid_out_lem = ranks.written ∙ ap (λ (rs : List Record). laid_out capacity rs before) kept_are

    rows_are : rows k after ≡ ranked candidates
    rows_are = ranks.records ∙ kept_are

    room : length candidates ≤ capacity
    room = omega (arith, holds.counted)

    -- the buffer, where nothing is kept
    module _ (empty : length (ranked candidates) ≤ 0) where
      nothing : ranked candidates ≡ []
      nothing = no_records (ranked candidates) empty

      none_laid : after ≡ laid_out capacity [] before
      none_laid = laid_out_lem ∙ ap (λ (rs : List Record). laid_out capacity rs before) nothing

    pub none_found : {r : Counts} → found ≡ 0 → r ≡ record { answer = NoneFound; found = found; kept = 0 } → Judged capacity candidates before (numbers_of r) after
    unfolding verdict rows
    none_found none made =
        let empty : length candidates ≡ 0 = omega (arith, holds.counted) in
        judged (rw (le-ltb capacity (length candidates) room, eq-eqb _ _ empty) refl) (ap numbers_of made) refl (none_laid (omega (arith, ranked_few candidates))) refl

    pub set_aside : {r : Counts} → (found ≡ 0 → ⊥) → k ≡ 0 → r ≡ record { answer = NoneKept; found = found; kept = 0 } → Judged capacity candidates before (numbers_of r) after
    unfolding verdict rows
    set_aside some none made =
        let empty : length (ranked candidates) ≡ 0 = omega (arith, number) in
        judged (rw (le-ltb capacity (length candidates) room, ne_eqb (length candidates) 0 (λ z. some (holds.counted ∙ z)), eq-eqb _ _ empty) refl) (ap numbers_of made) refl
        (none_laid (omega arith)) refl

    pub some_kept : {r : Counts} → (k ≡ 0 → ⊥) → r ≡ record { answer = Kept; found = found; kept = k } → Judged capacity candidates before (numbers_of r) after
    unfolding verdict
    some_kept some made =
        let more : 0 < length (ranked candidates) = omega (arith, number) in
        let found_some : length candidates ≡ 0 → ⊥ = λ z. absurd (omega (arith, ranked_few candidates)) in
        let kept_some : length (ranked candidates) ≡ 0 → ⊥ = λ z. absurd (omega arith) in
        judged (rw (le-ltb capacity (length candidates) room, ne_eqb (length candidates) 0 found_some, ne_eqb (length (ranked candidates)) 0 kept_some) refl)
        (ap numbers_of made) number laid_out_lem rows_are
