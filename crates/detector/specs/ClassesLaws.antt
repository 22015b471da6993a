-- What a bill takes from the record buffer of a run of an accepted image, which `words_run_lem` and `file_run_lem` of Demand3.antt give for the entries: each kept
-- record has the class of its outcome, and after them the words are 0 up to the capacity, the class too. Assumes nothing.
use Rattle.std.specs.Prelude.{ℕ, ◌≤◌, ◌<◌, Bool, List, [], ◌≡◌, length, get_or}
use Rattle.std.proofs.Common.{arith, ◌∙◌}
use Rattle.std.proofs.Math.Path.{ap}
use Rattle.reads.specs.Bits.{bit_at}
use Rattle.reads.specs.Runs.{value_of}
use Rattle.bit_matrix.specs.declared.Shape.{Shape}
use Rattle.records.specs.Records.{Record, capacity_of, laid_out}
use Rattle.records.specs.RecordsClauses.{get, Each}
use Rattle.records.specs.RecordsLaws.{each_at, each_weaker, laid_record, laid_zero}
use Rattle.detector_boxes.specs.ClassesLaws.{ClassedRecord}
use Rattle.detector_search.specs.declared.Setting.{Setting}
use Rattle.detector_search.specs.SearchLaws.{search_counted, search_classed}
use Rattle.detector.specs.Detector.{Run, steps, accepted_run}
use Rattle.detector.specs.Demand3.{Accepted}

module _ {shape : Shape} {words records : List ℕ} {ellipse : Bool} {left : Run} (accepted : Accepted shape words records ellipse left) where
  abbrev setting : Setting
  setting = record { shape = shape; capacity = capacity_of (length records); ellipse = ellipse }

  abbrev kept : List Record
  kept = (value_of (steps shape (length records) ellipse) words).records

  each_classed : Each ClassedRecord kept
  unfolding value_of
  each_classed = (search_classed setting accepted.accepted.image.limits).on (bit_at words)

  whole : Each (λ (r : Record). length r ≡ 40) kept
  whole = each_weaker ClassedRecord (λ (r : Record). length r ≡ 40) (λ r classed. classed.whole) kept each_classed

  number : left.report.kept ≡ length kept
  unfolding accepted_run value_of
  number = ap (λ (r : Run). r.report.kept) accepted.searched ∙ ((search_counted setting accepted.accepted.image.limits).on (bit_at words)).kept

  stored : left.records ≡ laid_out (capacity_of (length records)) kept records
  unfolding accepted_run
  stored = ap (λ (r : Run). r.records) accepted.searched

  pub kept_classed : (i : ℕ) → i < left.report.kept → ClassedRecord (get left.records i)
  kept_classed i h =
      let below : i < length kept = omega (arith, number) in
      rw (stored, laid_record (capacity_of (length records)) kept records whole i below) (each_at ClassedRecord [] kept i each_classed below)

  pub spare_zero : (i k : ℕ) → left.report.kept ≤ i → i < capacity_of (length records) → k < 40 → get_or (get left.records i) k 0 ≡ 0
  spare_zero i k least most low = rw stored (laid_zero (capacity_of (length records)) kept records whole i k (omega (arith, number)) most low)
