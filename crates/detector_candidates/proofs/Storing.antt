-- A buffer of candidates, and one more of them. Assumes nothing.
use Rattle.std.proofs.Common.{◌<◌, ℕ, zero, suc, ◌+◌, ◌*◌, ◌≤◌, min, suc-add, arith, ◌≡◌, refl, sym, ap, ◌∙◌, List, [], ◌∷◌, ◌++◌, length, take, drop, set, length-append, take_all, take_at, Option, Some, None}
use Rattle.std.proofs.Math.Nat.{min-eq_left, min-eq_right}
use Rattle.records.specs.Records.{Record, rows}
use Rattle.records.specs.RecordsClauses.{put, Became}
use Rattle.records.specs.RecordsLaws.{length_rows, drop_later, replaced}
use Rattle.detector_candidates.specs.Candidates.{after}
use Rattle.detector_candidates.specs.CandidatesClauses.{Room, Stored}

-- candidates are only added
pub after_more : (circles : List Record) (candidate : Option Record) → length circles ≤ length (after circles candidate)
after_more circles None = omega arith
after_more circles (Some candidate) = simp length-append (omega arith)

-- the last record replaced
set_last : (n : ℕ) (l : List ℕ) (r : Record) → set (rows (n + 1) l) n r ≡ rows n l ++ r ∷ []
unfolding rows
set_last zero l r = refl
set_last (suc n) l r = rw (suc-add n 1) (ap (λ (rs : List Record). take 40 l ∷ rs) (set_last n (drop 40 l) r))

-- up to the capacity, all candidates are stored
pub stored_all : {capacity count : ℕ} {before records : List ℕ} (circles : List Record) → count ≡ length circles → count ≤ capacity
    → Became count before circles records → Stored capacity before circles count records
stored_all {capacity} circles counted few became = record {
  counted = counted;
  written = rw (min-eq_left few, take_all capacity circles (omega (arith, counted))) became;
}

-- and then they are the buffer's records
pub stored_rows : {capacity : ℕ} {before : List ℕ} {circles : List Record} {count : ℕ} {records : List ℕ}
    → Stored capacity before circles count records → count ≤ capacity → circles ≡ rows count records
stored_rows {capacity} {circles = circles} {count} {records} stored few =
    sym (ap (λ (n : ℕ). rows n records) (sym (min-eq_left few)) ∙ stored.written.records ∙ take_all capacity circles (omega (arith, stored.counted)))

pub stored_rest : {capacity : ℕ} {before : List ℕ} {circles : List Record} {count : ℕ} {records : List ℕ}
    → Stored capacity before circles count records → count ≤ capacity → drop (40 * count) records ≡ drop (40 * count) before
stored_rest stored few = rw (min-eq_left few) at stored.written.rest

module _ {capacity : ℕ} {records : List ℕ} {count : ℕ} (room : Room capacity records count) where
  pub none_more : Stored capacity records (rows count records) count records
  none_more = stored_all (rows count records) (sym (length_rows count records)) room.few (record { records = refl; rest = refl })

  module _ (candidate : Record) where
    more : length (rows count records ++ candidate ∷ []) ≡ count + 1
    more = simp (length-append, length_rows) refl

    -- the one that is too many
    pub one_too_many : capacity ≤ count → Stored capacity records (rows count records ++ candidate ∷ []) (count + 1) records
    one_too_many h =
        let full : count ≡ capacity = omega (arith, room.few) in
        let most : capacity ≤ count + 1 = omega arith in
        let front : take capacity (rows count records ++ candidate ∷ []) ≡ rows capacity records =
        take_at (rows count records) (candidate ∷ []) capacity (length_rows count records ∙ full) ∙ ap (λ (n : ℕ). rows n records) full in
        record { counted = sym more; written = rw (min-eq_right most, front) (record { records = refl; rest = refl }) }

    pub one_more : {records' : List ℕ} → count < capacity → length candidate ≡ 40
        → records' ≡ put records count candidate → Stored capacity records (rows count records ++ candidate ∷ []) (count + 1) records'
    one_more {records'} few whole put =
        let became = replaced (count + 1) records count candidate records' put (omega arith) (omega (arith, room.held)) whole in
        stored_all (rows count records ++ candidate ∷ []) (sym more) (omega arith)
        (record { records = became.records ∙ set_last count records candidate; rest = became.rest })

-- what is behind the candidates so far was never written
pub stored_since : {capacity : ℕ} {before middle : List ℕ} {circles : List Record} {count found : ℕ} {records : List ℕ}
    → drop (40 * count) middle ≡ drop (40 * count) before → count ≤ capacity → count ≤ found → Stored capacity middle circles found records
    → Stored capacity before circles found records
stored_since {capacity} {before} {middle} {count = count} {found} rest few later stored = record {
  counted = stored.counted;
  written = record {
    records = stored.written.records;
    rest = stored.written.rest ∙ drop_later middle before (40 * count) (40 * min found capacity) (omega arith) rest;
  };
}
