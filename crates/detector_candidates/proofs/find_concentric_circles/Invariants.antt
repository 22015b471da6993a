-- `detector_candidates::find_concentric_circles` meets its contract. The invariant is `Sweeping`: with some fuel, what is left of the sweep ends as the whole
-- does, and only the candidates so far were written.
use Rattle.std.proofs.Common.{ℕ, zero, suc, ◌+◌, ◌-◌, ◌*◌, ◌≤◌, ◌<◌, ◌≡◌, refl, sym, ◌∙◌, cond, List, arith, lt-ltb, le-ltb, ltb, length, drop, Option, Some, None}
use Rattle.reads.specs.Reads.{Reads, done}
use Rattle.reads.specs.ReadsLaws.{Always}
use Rattle.reads.proofs.ReadsLaws.{always_done, always_after, always_cond}
use Rattle.reads.specs.Runs.{value_of}
use Rattle.reads.specs.RunsClauses.{Ran, Resumes}
use Rattle.reads.proofs.RunsLaws.{ran_done, always_ran, resumes_step, resumes_then, resumes_else, resumes_end}
use Rattle.records.specs.Records.{Record, rows}
use Rattle.records.specs.RecordsLaws.{length_rows}
use Rattle.bit_matrix.specs.declared.Shape.{Shape}
use Rattle.bit_matrix.specs.declared.BitMatrix.{BitMatrix}
use Rattle.bit_matrix.specs.ImageClauses.{Kept}
use Rattle.bit_matrix.proofs.ImageLaws.{kept_on}
use Rattle.detector_candidate.specs.CandidateClauses.{search_from}
use Rattle.detector_candidates.specs.CandidatesClauses.{row_from, rows_from, Room, Listed}
use Rattle.detector_candidates.specs.Candidates.{after, row_on, row_by, rows_by, concentric_circles}
use Rattle.detector_candidates.proofs.Storing.{after_more, stored_all, stored_rows, stored_rest, stored_since}
use Rattle.detector_candidates.proofs.find_concentric_circles.Given as goal

on_more : {least : ℕ} (next : Option ℕ) (now : List Record) (rest : ℕ → Reads (List Record)) → least ≤ length now
    → ((further : ℕ) → Always (λ (circles : List Record). least ≤ length circles) (rest further))
    → Always (λ (circles : List Record). least ≤ length circles) (row_on next now rest)
on_more None now rest more goes = always_done more
on_more (Some further) now rest more goes = goes further

-- a row only adds candidates
pub row_more : (shape : Shape) (capacity n row column : ℕ) (circles : List Record)
    → Always (λ (now : List Record). length circles ≤ length now) (row_from shape capacity n row column circles)
unfolding row_by
row_more shape capacity zero row column circles = always_done (omega arith)
row_more shape capacity (suc n) row column circles =
    always_after (search_from shape row column) _ λ s.
    let now = after circles s.candidate in
    let more = after_more circles s.candidate in
    always_cond (ltb capacity (length now))
    (λ _. always_done more)
    (λ _. on_more s.next now _ more (λ further. record { on = λ image. omega (arith, more, (row_more shape capacity n row further now).on image) }))

pub record Sweeping (first : BitMatrix) (records₀ : List ℕ) (capacity : ℕ) (image : BitMatrix) (records : List ℕ) (found row : ℕ) : Type 0 where
  pub fuel : ℕ
  pub kept : Kept first image
  pub room : Room capacity records found
  pub same : length records ≡ length records₀
  pub fueled : first.shape.height - row ≤ fuel
  pub rest : drop (40 * found) records ≡ drop (40 * found) records₀
  pub resumes : Resumes first.words.now
      (rows_from first.shape capacity fuel row (rows found records)) image.marks.now
      (concentric_circles first.shape capacity) first.marks.now

module _ {first image : BitMatrix} {records₀ records : List ℕ} {capacity found row : ℕ}
    (so_far : Sweeping first records₀ capacity image records found row) where
  abbrev shape : Shape
  shape = first.shape

  abbrev words : List ℕ
  words = first.words.now

  abbrev pub whole : Reads (List Record)
  whole = concentric_circles shape capacity

  -- past the last row
  pub past : shape.height - 6 ≤ row → Listed whole capacity words first.marks.now records₀ found image.marks.now records
  unfolding rows_by
  past h = listed (go so_far.fuel so_far.resumes)
    where
      listed : Ran whole words first.marks.now (rows found records) image.marks.now
          → Listed whole capacity words first.marks.now records₀ found image.marks.now records
      listed end = record {
        stored = rw (← end.result)
            (stored_all (rows found records) (sym (length_rows found records)) so_far.room.few (record { records = refl; rest = so_far.rest }));
        marked = end.marked;
      }

      go : (n : ℕ) → Resumes words (rows_from shape capacity n row (rows found records)) image.marks.now whole first.marks.now
          → Ran whole words first.marks.now (rows found records) image.marks.now
      go zero resumes = resumes_end (ran_done _) resumes
      go (suc n) resumes = resumes_end (ran_done _) (resumes_else _ _ (le-ltb row (shape.height - 6) h) resumes)

  -- a row
  module _ (h : row < shape.height - 6) {found' : ℕ} (image' : BitMatrix) {records' : List ℕ}
      (swept : Listed (row_from image.shape capacity image.shape.width row 6 (rows found records)) capacity image.words.now image.marks.now records found'
      image'.marks.now records') where
    abbrev pub step : Reads (List Record)
    step = row_from shape capacity shape.width row 6 (rows found records)

    listed : Listed step capacity words image.marks.now records found' image'.marks.now records'
    listed = rw (so_far.kept.shape, so_far.kept.words) at swept

    abbrev pub now : List Record
    now = value_of step words

    pub ran : Ran step words image.marks.now now image'.marks.now
    ran = record { result = refl; marked = listed.marked }

    pub more : found ≤ found'
    more =
        let grown = always_ran (row_more shape capacity shape.width row 6 (rows found records)) ran in
        omega (arith, listed.stored.counted, length_rows found records, grown)

    -- a turn has fuel
    pub record Turned : Type 0 where
      pub fuel : ℕ
      pub fueled : shape.height - row ≤ suc fuel
      pub resumes : Resumes words (cond (ltb capacity (length now)) (done now) (rows_from shape capacity fuel (row + 2) now)) image'.marks.now
          whole first.marks.now

    pub turned : Turned
    unfolding rows_by
    turned = go so_far.fuel so_far.fueled so_far.resumes
      where
        go : (n : ℕ) → shape.height - row ≤ n
            → Resumes words (rows_from shape capacity n row (rows found records)) image.marks.now whole first.marks.now → Turned
        go zero enough resumes = absurd (omega arith)
        go (suc n) enough resumes =
            record { fuel = n; fueled = enough; resumes = resumes_step _ ran (resumes_then _ _ (lt-ltb row (shape.height - 6) h) resumes) }

    pub at_full : capacity < found' → Listed whole capacity words first.marks.now records₀ found' image'.marks.now records'
    at_full full =
        let most : capacity < length now = omega (arith, listed.stored.counted) in
        let end : Ran whole words first.marks.now now image'.marks.now = resumes_end (ran_done _) (resumes_then _ _ (lt-ltb capacity _ most) turned.resumes) in
        record { stored = rw (← end.result) (stored_since so_far.rest so_far.room.few more listed.stored); marked = end.marked }

    pub onward : found' ≤ capacity → Kept image image' → length records' ≡ length records → Sweeping first records₀ capacity image' records' found' (row + 2)
    onward few kept same =
        let most : length now ≤ capacity = omega (arith, listed.stored.counted) in
        record {
          fuel = turned.fuel;
          kept = kept_on so_far.kept kept;
          room = record { few = few; most = so_far.room.most; held = rw same so_far.room.held };
          same = same ∙ so_far.same;
          fueled = omega (arith, turned.fueled);
          rest = stored_rest (stored_since so_far.rest so_far.room.few more listed.stored) few;
          resumes = rw (← stored_rows listed.stored few) (resumes_else _ _ (le-ltb capacity _ most) turned.resumes);
        }

abbrev pub invariant-loop-row : goal.invariant-loop-row
invariant-loop-row l = Sweeping l.initial.image l.initial.records l.capacity l.image l.records l.found l.row
