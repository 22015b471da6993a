-- `detector_candidates::sweep_row` meets its contract. The invariant is `Sweeping`: with some fuel, what is left of the row ends as the whole does, and only
-- the candidates so far were written. That a turn moves to the right, and so has fuel, is a fact of the definition of a search. The measure is the columns
-- left.
use Rattle.std.proofs.Common.{ℕ, zero, suc, ◌-◌, ◌*◌, ◌≤◌, ◌<◌, ◌≡◌, ◌∙◌, cond, List, arith, lt-ltb, le-ltb, ltb, length, drop, Option, Some, None, IfSome, sym, refl}
use Rattle.reads.specs.Reads.{Reads, done}
use Rattle.reads.specs.Bits.{bit_at}
use Rattle.reads.specs.RunsClauses.{Ran, Resumes}
use Rattle.reads.proofs.RunsLaws.{ran_done, on_ran, resumes_step, resumes_then, resumes_else, resumes_end}
use Rattle.records.specs.Records.{Record, rows}
use Rattle.records.specs.RecordsLaws.{length_rows}
use Rattle.bit_matrix.specs.declared.Shape.{Shape}
use Rattle.bit_matrix.specs.declared.BitMatrix.{BitMatrix}
use Rattle.bit_matrix.specs.ImageClauses.{Kept, RanOn}
use Rattle.bit_matrix.proofs.ImageLaws.{kept_on, onto}
use Rattle.detector_candidate.specs.CandidateClauses.{Searchable, search_from}
use Rattle.detector_candidates.specs.CandidatesClauses.{row_from, Room, Stored, Listed}
use Rattle.detector_candidates.specs.Candidates.{after, row_on, row_by}
use Rattle.detector_candidate.specs.CandidateLaws.{Further, FitSearch, search_fit, searchable_next}
use Rattle.detector_candidate.specs.declared.Searched.{Searched}
use Rattle.detector_candidates.proofs.Storing.{after_more, stored_all, stored_rows, stored_rest, stored_since}
use Rattle.detector_candidates.proofs.sweep_row.Given as goal

-- where the row goes on, with fuel for the columns left
pub record Going (shape : Shape) (row fuel column : ℕ) : Type 0 where
  pub at : Searchable shape row column
  pub fueled : shape.width - column ≤ fuel

pub record Sweeping (first : BitMatrix) (records₀ : List ℕ) (capacity row found : ℕ) (image : BitMatrix) (records : List ℕ) (count : ℕ)
    (next : Option ℕ) : Type 0 where
  pub fuel : ℕ
  pub kept : Kept first image
  pub room : Room capacity records count
  pub same : length records ≡ length records₀
  pub rest : drop (40 * count) records ≡ drop (40 * count) records₀
  pub going : IfSome next (Going first.shape row fuel)
  pub resumes : Resumes first.words.now
      (row_on next (rows count records) (λ column. row_from first.shape capacity fuel row column (rows count records))) image.marks.now
      (row_from first.shape capacity first.shape.width row 6 (rows found records₀)) first.marks.now

-- the columns left, and the search at hand
abbrev pub columns_left : ℕ → Option ℕ → ℕ
columns_left width None = 0
columns_left width (Some column) = suc (width - column)

-- the row has ended
pub at_end : {first image : BitMatrix} {records₀ records : List ℕ} {capacity row found count : ℕ} {next : Option ℕ}
    → Sweeping first records₀ capacity row found image records count next → next ≡ None
    → Listed (row_from first.shape capacity first.shape.width row 6 (rows found records₀)) capacity first.words.now first.marks.now records₀ count
    image.marks.now records
at_end {records = records} {count = count} so_far none =
    let end = resumes_end (ran_done _) (rw none at so_far.resumes) in
    record {
      stored = rw (← end.result)
          (stored_all (rows count records) (sym (length_rows count records)) so_far.room.few (record { records = refl; rest = so_far.rest }));
      marked = end.marked;
    }

module _ {first image : BitMatrix} {records₀ records : List ℕ} {capacity row found count column : ℕ}
    (so_far : Sweeping first records₀ capacity row found image records count (Some column)) where
  abbrev shape : Shape
  shape = first.shape

  abbrev words : List ℕ
  words = first.words.now

  abbrev pub whole : Reads (List Record)
  whole = row_from shape capacity shape.width row 6 (rows found records₀)

  -- a search, and its candidate appended
  module _ {s : Searched} {image' : BitMatrix} (on : RanOn (search_from image.shape row column) image s image')
      {count' : ℕ} {records' : List ℕ} (stored : Stored capacity records (after (rows count records) s.candidate) count' records') where
    abbrev pub now : List Record
    now = after (rows count records) s.candidate

    ran : Ran (search_from shape row column) words image.marks.now s image'.marks.now
    ran = onto (λ shape. search_from shape row column) so_far.kept on

    pub fits : FitSearch shape (bit_at words) column s
    fits = on_ran (search_fit shape (bit_at words) row column first.is_image.limits so_far.going.at) ran

    pub more : count ≤ count'
    more = omega (arith, stored.counted, after_more (rows count records) s.candidate, length_rows count records)

    -- a turn has fuel, since it starts left of the limit
    pub record Turned : Type 0 where
      pub fuel : ℕ
      pub fueled : shape.width - column ≤ suc fuel
      pub resumes : Resumes words
          (cond (ltb capacity (length now)) (done now) (row_on s.next now (λ further. row_from shape capacity fuel row further now)))
          image'.marks.now whole first.marks.now

    pub turned : Turned
    unfolding row_by
    turned = go so_far.fuel so_far.going.fueled so_far.resumes
      where
        go : (n : ℕ) → shape.width - column ≤ n
            → Resumes words (row_from shape capacity n row column (rows count records)) image.marks.now whole first.marks.now → Turned
        go zero enough resumes = absurd (omega (arith, so_far.going.at.right))
        go (suc n) enough resumes = record { fuel = n; fueled = enough; resumes = resumes_step _ ran resumes }

    pub at_full : capacity < count' → Listed whole capacity words first.marks.now records₀ count' image'.marks.now records'
    at_full h =
        let most : capacity < length now = omega (arith, stored.counted) in
        let end = resumes_end (ran_done _) (resumes_then _ _ (lt-ltb capacity _ most) turned.resumes) in
        record { stored = rw (← end.result) (stored_since so_far.rest so_far.room.few more stored); marked = end.marked }

    pub fewer : columns_left shape.width s.next < columns_left shape.width (Some column)
    fewer = go s.next fits.onward
      where
        go : (next : Option ℕ) → IfSome next (Further shape.width column) → columns_left shape.width next < columns_left shape.width (Some column)
        go None _ = omega arith
        go (Some next) onward = omega (arith, onward.further, onward.inside)

    goes_on : (next : Option ℕ) → IfSome next (Further shape.width column) → IfSome next (Going shape row turned.fuel)
    goes_on None _ = tt
    goes_on (Some next) onward = record {
      at = searchable_next so_far.going.at onward;
      fueled = omega (arith, turned.fueled, onward.further);
    }

    pub onward : count' ≤ capacity → length records' ≡ length records → Sweeping first records₀ capacity row found image' records' count' s.next
    onward few same =
        let most : length now ≤ capacity = omega (arith, stored.counted) in
        record {
          fuel = turned.fuel;
          kept = kept_on so_far.kept on.kept;
          room = record { few = few; most = so_far.room.most; held = rw same so_far.room.held };
          same = same ∙ so_far.same;
          rest = stored_rest (stored_since so_far.rest so_far.room.few more stored) few;
          going = goes_on s.next fits.onward;
          resumes = rw (← stored_rows stored few) (resumes_else _ _ (le-ltb capacity _ most) turned.resumes);
        }

abbrev pub invariant-loop-next : goal.invariant-loop-next
invariant-loop-next l = Sweeping l.initial.image l.initial.records l.capacity l.row l.found l.image l.records l.count l.next

abbrev pub decreases-loop-next : goal.decreases-loop-next
decreases-loop-next l = columns_left l.initial.image.shape.width l.next
