-- `detector_boxes::box_kept` meets its contract.
use Rattle.std.proofs.Common.{ℕ, ◌+◌, ◌≤◌, ◌<◌, suc, add-zero, add-one, arith, Bool, ◌≡◌, refl, sym, ap, ◌∙◌, List, [], ◌∷◌, ◌++◌, rules, length, get_or, take, drop, set, take-suc-set, drop-set-lt, drop-cons, drop-drop, take_all, get_or-drop}
use Rattle.std.proofs.Math.Seq.{drop-length}
use Rattle.reads.specs.RunsClauses.{Ran}
use Rattle.reads.proofs.RunsLaws.{ran_done, resumes_start, resumes_step, resumes_end}
use Rattle.bit_matrix.specs.declared.BitMatrix.{BitMatrix}
use Rattle.bit_matrix.specs.ImageClauses.{RanOn}
use Rattle.bit_matrix.proofs.ImageLaws.{kept_same, kept_on, onto}
use Rattle.records.specs.Records.{Record, rows}
use Rattle.records.specs.RecordsClauses.{get, put, Became}
use Rattle.records.specs.RecordsLaws.{length_rows, get_row, replaced, beside_start, beside_then, beside_room, each_at}
use Rattle.detector_boxes.specs.Boxing.{boxed, boxed_all}
use Rattle.detector_boxes.specs.BoxingClauses.{Boxable, AllBoxable, Boxed}
use Rattle.detector_boxes.proofs.OneByOne.{boxed_from, all_at_once}
use Rattle.detector_boxes.proofs.box_kept.Invariants.{Boxing}
use Rattle.detector_boxes.proofs.box_kept.Goals as goal

begins : {image : BitMatrix} {records : List ℕ} {kept : ℕ} (ellipse : Bool) → AllBoxable image.shape image.words.now kept records
    → Boxing image records kept ellipse image records 0
begins {records = records} {kept = kept} ellipse all = record {
  same = kept_same;
  each = all.each;
  beside = beside_start kept records all.held;
  back = refl;
  resumes = resumes_start;
}

module _ {image₀ image : BitMatrix} {records₀ records : List ℕ} {kept i : ℕ} {ellipse : Bool}
    (so_far : Boxing image₀ records₀ kept ellipse image records i) where
  module _ (h : i < kept) where
    inside : i < length (rows kept records₀)
    inside = omega (arith, length_rows kept records₀)

    -- record i is still the one that it was
    unmoved : get records i ≡ get_or (rows kept records₀) i []
    unmoved =
        sym (get_row kept records i h)
        ∙ ap (λ (k : ℕ). get_or (rows kept records) k []) (sym (add-zero i))
        ∙ sym (get_or-drop i (rows kept records) 0 [])
        ∙ ap (λ (rs : List Record). get_or rs 0 []) so_far.back
        ∙ get_or-drop i (rows kept records₀) 0 []
        ∙ ap (λ (k : ℕ). get_or (rows kept records₀) k []) (add-zero i)

    fit : {r : Record} → r ≡ get records i → Boxable image.shape image.words.now r
    fit e =
        rw (e ∙ unmoved, so_far.same.shape, so_far.same.words)
        (each_at (Boxable image₀.shape image₀.words.now) [] (rows kept records₀) i so_far.each inside)

    -- a record gets its symbol
    onward : {r b : Record} {image' : BitMatrix} {records' : List ℕ} → r ≡ get records i → RanOn (boxed ellipse image.shape r) image b image'
        → length b ≡ 40 → records' ≡ put records i b → length records' ≡ length records
        → Boxing image₀ records₀ kept ellipse image' records' (i + 1)
    unfolding boxed_from
    onward {r} {b} {image'} {records'} e run whole stored same = record {
      same = kept_on so_far.same run.kept;
      each = so_far.each;
      beside = beside_then so_far.beside now same;
      back =
          ap (drop (i + 1)) now.records ∙ drop-set-lt (i + 1) (rows kept records) i b (omega arith)
          ∙ sym (drop-drop 1 i (rows kept records)) ∙ ap (drop 1) so_far.back ∙ drop-drop 1 i (rows kept records₀);
      resumes = rw (front, next) (resumes_step _ (rw (e ∙ unmoved) at ran) (rw rest at so_far.resumes));
    }
      where
        ran : Ran (boxed ellipse image₀.shape r) image₀.words.now image.marks.now b image'.marks.now
        ran = onto (λ shape. boxed ellipse shape r) so_far.same run

        now : Became kept records (set (rows kept records) i b) records'
        now = replaced kept records i b records' stored h (beside_room so_far.beside) whole

        next : drop (i + 1) (rows kept records₀) ≡ drop (suc i) (rows kept records₀)
        next = ap (λ (k : ℕ). drop k (rows kept records₀)) (add-one i)

        rest : drop i (rows kept records₀) ≡ get_or (rows kept records₀) i [] ∷ drop (suc i) (rows kept records₀)
        rest = drop-cons (rows kept records₀) i [] inside

        front : take (i + 1) (rows kept records') ≡ take i (rows kept records) ++ b ∷ []
        front =
            ap (take (i + 1)) now.records ∙ ap (λ (k : ℕ). take k (set (rows kept records) i b)) (add-one i)
            ∙ take-suc-set (rows kept records) i b (omega (arith, length_rows kept records))

  over : kept ≤ i → i ≤ kept
      → Boxed (boxed_all ellipse image₀.shape (rows kept records₀)) kept image₀.words.now image₀.marks.now records₀ image.marks.now records
  unfolding boxed_from
  over h few = record {
    stored = record { records = all ∙ end.result; rest = so_far.beside.rest };
    marked = end.marked;
  }
    where
      all : rows kept records ≡ take i (rows kept records)
      all = sym (take_all i (rows kept records) (omega (arith, length_rows kept records)))

      none : drop i (rows kept records₀) ≡ []
      none =
          let last : i ≡ length (rows kept records₀) = omega (arith, length_rows kept records₀) in
          ap (λ (k : ℕ). drop k (rows kept records₀)) last ∙ drop-length (rows kept records₀)

      end : Ran (boxed_all ellipse image₀.shape (rows kept records₀)) image₀.words.now image₀.marks.now (take i (rows kept records)) image.marks.now
      end = all_at_once ellipse image₀.shape (rows kept records₀) (resumes_end (ran_done _) (rw none at so_far.resumes))

pub box_record-requires : goal.box_record-requires
box_record-requires c = search fit

pub loop-i-preserved : goal.loop-i-preserved
loop-i-preserved c = search (onward, rules)

pub returns : goal.returns
returns c = search over
