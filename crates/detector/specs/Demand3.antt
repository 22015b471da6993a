-- Demand 3 over runs. Two accepted images of one size, each in words or in a crop file, with equal records lent, under one setting of the ellipse check,
-- that agree at every bit that the first run marked: both runs report the same and leave the same records and marks, whichever the answer. And a stored bit
-- is marked exactly when the steps, at the capacity lent and under the call's setting, read it.
-- A file's bits are those of its unpacked words. An entry has its part by one lemma, that its run is one of an accepted image. Assumes nothing.
use Rattle.std.specs.Prelude.{ℕ, ◌/◌, ◌<◌, Bool, true, ◌↔◌, ◌≡◌, List}
use Rattle.std.proofs.Math.Path.{sym, ap₂, subst}
use Rattle.std.proofs.Common.{ap, ◌∙◌}
use mathlib.Core.List.{Memᴰ}
use Rattle.std.proofs.Math.ListN.{length}
use Rattle.std.proofs.lemmas.List.{length-replicate}
use Rattle.reads.specs.Reads.{trace}
use Rattle.reads.specs.Bits.{bit_at, zeros}
use Rattle.reads.proofs.Demand3.{marked_when_read, non_interference}
use Rattle.bit_matrix.specs.declared.Shape.{Shape}
use Rattle.bit_matrix.specs.Shape.{shape_of, size}
use Rattle.bit_matrix.specs.ShapeLaws.{image_kept}
use Rattle.marks.specs.Marks.{ones_of}
use Rattle.crop_rows.specs.UnpackLaws.{length_unpacked, unpacked_clean}
use Rattle.crop.specs.Crop.{file_shape, width, height, image, words_refusal, file_refusal}
use Rattle.crop.specs.CropClauses.{WordsAccepted}
use Rattle.crop.specs.CropLaws.{is_accepted, words_accepted, file_ready}
use Rattle.records.specs.Records.{capacity_of, laid_out}
use Rattle.detector_search.specs.Search.{Result}
use Rattle.detector.specs.Detector.{Run, run, report_of, steps, accepted_run, words_run, FileRun, file_run}

-- a run of an accepted image of this shape, whose bits are those of `words`, with these records and marks that fit lent, under this setting of the
-- ellipse check, leaves `left`
pub record Accepted (shape : Shape) (words records : List ℕ) (ellipse : Bool) (left : Run) : Type 0 where
  -- the zeros stand for any marks that fit
  pub accepted : WordsAccepted shape words (zeros (size shape)) records
  pub searched : left ≡ accepted_run shape words records ellipse

-- each run of `search_words` that does not refuse its image is one
pub words_run_lem : (words : List ℕ) (w h : ℕ) (records marks : List ℕ) (ellipse : Bool) {left : Run} → left ≡ words_run words w h records marks ellipse
    → words_refusal words w h (length marks) (length records) ≡ 0 → Accepted (shape_of w h) words records ellipse left
unfolding words_run
words_run_lem words w h records marks ellipse ran passes =
    let ok = words_accepted words w h marks records passes in
    let same : length (zeros (size (shape_of w h))) ≡ length marks =
    length-replicate (size (shape_of w h)) 0 ∙ sym (ok.image.sized ∙ ok.image.stored) in
    record {
      accepted = record { image = image_kept ok.image same; clean = ok.clean; room = ok.room };
      searched = ran ∙ sym (is_accepted _ _ passes);
    }

-- and each run of `search_file` that does not refuse its file
pub file_run_lem : (file words records marks : List ℕ) (ellipse : Bool) {left : FileRun} → left ≡ file_run file words records marks ellipse
    → file_refusal file (length words) (length marks) (length records) ≡ 0 → Accepted (file_shape file) (image file) records ellipse left.run
unfolding file_run
file_run_lem file words records marks ellipse ran passes =
    let ok = file_ready file words marks records passes in
    let long : length (image file) ≡ size (file_shape file) = length_unpacked file (file_shape file) in
    record {
      accepted = record {
        image = record {
          limits = ok.accepted.limits;
          stored = long;
          sized = length-replicate (size (file_shape file)) 0 ∙ sym long;
        };
        clean = unpacked_clean file (width file) (height file);
        room = ok.room;
      };
      searched = ap (λ (x : FileRun). x.run) (ran ∙ sym (is_accepted _ _ passes));
    }

module _ {shape : Shape} {words records : List ℕ} {ellipse : Bool} {first : Run} (accepted : Accepted shape words records ellipse first) where
  -- a stored bit is marked exactly when the steps read it
  pub marked_when_steps_read : (i : ℕ) → i / 64 < length words
      → (bit_at first.marks i ≡ true) ↔ Memᴰ i (trace (steps shape (length records) ellipse) (bit_at words))
  unfolding accepted_run
  marked_when_steps_read i stored = rw accepted.searched (marked_when_read (steps shape (length records) ellipse) words i stored)

  -- a second run, under the same setting, of another accepted image of one size with the first, that agrees with it at every bit marked there: its report,
  -- records and marks are the first one's
  pub runs_agree : {shape₂ : Shape} {other : List ℕ} {second : Run} → Accepted shape₂ other records ellipse second → shape₂ ≡ shape
      → ((i : ℕ) → bit_at first.marks i ≡ true → bit_at other i ≡ bit_at words i) → second ≡ first
  unfolding accepted_run
  runs_agree {other = other} {second} accepted₂ same agree =
      let beside : Accepted shape other records ellipse second = subst (λ (s : Shape). Accepted s other records ellipse second) same accepted₂ in
      let long : length other ≡ length words = beside.accepted.image.stored ∙ sym accepted.accepted.image.stored in
      let equal = non_interference (steps shape (length records) ellipse) words other long (λ i marked. agree i (rw accepted.searched marked)) in
      beside.searched
      ∙ ap₂ (λ (v : Result) (m : List ℕ). run (report_of v.counts (ones_of m)) (laid_out (capacity_of (length records)) v.records records) m)
      equal.0 equal.1
      ∙ sym accepted.searched
