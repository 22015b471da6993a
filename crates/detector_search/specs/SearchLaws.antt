-- What the counts of a search are, by its answer, and that as many records are kept as it counts, each with the class of its outcome. And that from every
-- centre found the walks are short. Assumes nothing.
use Rattle.std.specs.Prelude.{ℕ, ◌+◌, ◌*◌, ◌≤◌, ◌<◌, List, ◌≡◌, length}
use Rattle.std.proofs.Common.{arith, sym, ◌∙◌, length-set}
use Rattle.reads.specs.Reads.{value}
use Rattle.reads.specs.Bits.{bit_at}
use Rattle.reads.specs.Runs.{value_of}
use Rattle.reads.specs.ReadsLaws.{Always}
use Rattle.reads.proofs.ReadsLaws.{always_done, always_bind}
use Rattle.bit_matrix.specs.declared.Shape.{Shape}
use Rattle.bit_matrix.specs.ShapeClauses.{Limits}
use Rattle.records.specs.Fields as field
use Rattle.records.specs.Records.{Record}
use Rattle.records.specs.RecordsClauses.{Each}
use Rattle.records.specs.RecordsLaws.{each_weaker}
use Rattle.detector_candidate.specs.CandidateLaws.{Candidate}
use Rattle.detector_candidates.specs.Candidates.{concentric_circles}
use Rattle.detector_candidates.specs.CandidatesLaws.{all_candidates}
use Rattle.detector_walks.specs.Walks.{find_width_at_degree}
use Rattle.detector_walks.specs.LengthLaws.{short_length}
use Rattle.detector_variances.specs.Variances.{variance_bits, with_variance}
use Rattle.detector_variances.specs.VariancesLaws.{varied_word}
use Rattle.detector_kept.specs.KeptLaws.{each_ranked}
use Rattle.detector_verdict.specs.Verdict.{verdict}
use Rattle.detector_verdict.specs.VerdictLaws.{Counted, verdict_counted, kept_counted, each_kept}
use Rattle.detector_boxes.specs.Boxing.{circle_of}
use Rattle.detector_boxes.specs.BoxingLaws.{boxed_length}
use Rattle.detector_boxes.specs.ClassesLaws.{WholeInside, ClassedRecord, all_classed}
use Rattle.detector_search.specs.declared.Setting.{Setting}
use Rattle.detector_search.specs.Search.{Result, search_at}

pub record Consistent (capacity : ℕ) (r : Result) : Type 0 where
  pub counted : Counted capacity r.counts
  pub kept : r.counts.kept ≡ length r.records

pub search_counted : (setting : Setting) → Limits setting.shape → Always (Consistent setting.capacity) (search_at setting)
unfolding search_at
search_counted setting limits =
    let shape = setting.shape in
    let capacity = setting.capacity in
    always_bind {Q = λ (rs : List Record). length rs ≤ capacity + 1} _ (record { on = λ image. (all_candidates shape capacity limits image).holds.1 })
    λ candidates few.
    always_bind {Q = λ (bs : List Record). length bs ≡ length (verdict capacity candidates).kept} _
    (boxed_length setting.ellipse shape (verdict capacity candidates).kept)
    λ records same. always_done (record { counted = verdict_counted capacity candidates few; kept = kept_counted capacity candidates ∙ sym same })

-- ---- classes

varied_inside : {shape : Shape} (r : Record) → WholeInside shape r → WholeInside shape (with_variance r)
unfolding with_variance
varied_inside r held = record {
  whole = length-set r field.variance (variance_bits r) ∙ held.whole;
  inside = rw (varied_word r 0 (λ e. omega arith), varied_word r 1 (λ e. omega arith)) held.inside;
}

pub search_classed : (setting : Setting) → Limits setting.shape → Always (λ (r : Result). Each ClassedRecord r.records) (search_at setting)
unfolding search_at
search_classed setting limits =
    let shape = setting.shape in
    let capacity = setting.capacity in
    always_bind {Q = Each (WholeInside shape)} _
    (record {
      on = λ image.
          each_weaker (Candidate shape image) (WholeInside shape) (λ r candidate. record { whole = candidate.whole; inside = candidate.inside })
          (value (concentric_circles shape capacity) image)
          (all_candidates shape capacity limits image).holds.0;
    })
    λ candidates each.
    always_bind {Q = Each ClassedRecord} _
    (all_classed setting.ellipse shape (verdict capacity candidates).kept
    (each_kept capacity candidates (WholeInside shape) (each_ranked (WholeInside shape) (WholeInside shape) varied_inside candidates each)))
    λ records classed. always_done classed

-- ---- walks

-- from every centre that the sweep finds each of the 72 lengths, left and right together, is under 50,000
pub found_short : (shape : Shape) (capacity : ℕ) → Limits shape → (words : List ℕ)
    → Each (λ (r : Record). (i : ℕ) → i < 72 → (value_of (find_width_at_degree shape (circle_of r).center (5 * i)) words).length < 50000)
    (value_of (concentric_circles shape capacity) words)
unfolding value_of
found_short shape capacity limits words =
    each_weaker (Candidate shape (bit_at words)) _
    (λ r candidate. short_length limits (circle_of r).center candidate.inside words candidate.flanked)
    (value (concentric_circles shape capacity) (bit_at words))
    (all_candidates shape capacity limits (bit_at words)).holds.0
