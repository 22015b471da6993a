-- The invariant of `sweep`, and how it goes from change to change and from word to word. The runs so far are those of the ring, the changes up to `stop` are
-- known, and with the columns so far marked, what is left of the definition ends as the whole does from the marks before, whatever these are. Assumes nothing.
use Rattle.std.proofs.Common.{ℕ, ◌+◌, ◌-◌, ◌*◌, ◌/◌, ◌%◌, ◌^◌, ◌≤◌, ◌<◌, min, ◌≡◌, refl, sym, ap, ◌∙◌, Bool, true, not, List, arith, length, get_or, length-set, replicate, get_or-set_same, Option, Some, None}
use lib.Count.{count_trailing_zeros}
use Rattle.reads.specs.Reads.{Reads}
use Rattle.reads.specs.Bits.{mark, mark_all, range}
use Rattle.reads.proofs.BitsLaws.{length_mark_all, range_join, range_last}
use Rattle.reads.specs.RunsClauses.{Resumes}
use Rattle.reads.proofs.RunsLaws.{ran_done, resumes_start, resumes_end}
use Rattle.bit_matrix.specs.declared.Shape.{Shape}
use Rattle.bit_matrix.specs.Shape.{size}
use Rattle.bit_matrix.specs.ShapeClauses.{Limits}
use Rattle.bit_runs.specs.BitRuns.{row_bit, Changes}
use Rattle.bit_runs.specs.ChangesLaws.{changes_fewer, same_until, changes_at, changes_after}
use Rattle.reads.specs.Total.{total}
use Rattle.detector_window.specs.Window.{radius_of, metadata}
use Rattle.detector_first_window.specs.FirstWindow.{window_by}
use Rattle.detector_first_window.specs.FirstWindowClauses.{window_from, Swept}
use Rattle.detector_first_window.specs.FirstWindowLaws.{CountedRuns, counted_none}
use Rattle.detector_window.specs.Ring.{buckets_of, colour, started, closed_by}
use Rattle.detector_window.specs.declared.Bullseye.{Bullseye}
use Rattle.detector_window.specs.RingLaws.{none_counted, colour_next}
use Rattle.detector_first_window.proofs.SweepLaws.{closed_some, closed_none, sweep_at, resumes_run, resumes_closed, resumes_next, counted_to, counted_change}

-- n columns from `from` on marked
abbrev Marked : List ℕ → Shape → ℕ → ℕ → ℕ → List ℕ
Marked marks shape row from n = mark_all marks (range (row * shape.row_words * 64 + from) n)

-- from the marks m, with the columns up to `column` marked, `rest` ends as the whole sweep does
abbrev Rest : List ℕ → Shape → ℕ → ℕ → ℕ → ℕ → Reads (Option Bullseye) → Type 0
Rest words shape row from limit column rest = (m : List ℕ) → length m ≡ length words
    → Resumes words rest (Marked m shape row from (column - from)) (window_from shape row (limit - from) from true 0 (replicate 11 0)) m

pub record Sweeping (words : List ℕ) (shape : Shape) (row from limit : ℕ) (ring : List ℕ) (k column stop changes : ℕ) : Type 0 where
  pub limits : Limits shape
  pub narrow : limit ≤ shape.width
  pub stored : length words ≡ size shape
  pub after : from ≤ column
  pub upto : column ≤ stop
  pub within : stop ≤ limit
  pub word : stop ≤ column + 64
  pub few : k ≤ column
  pub sixteen : length ring ≡ 16
  pub starts : get_or ring (k % 16) 0 ≤ column
  pub counted : CountedRuns from column (min k 10) (buckets_of ring k column)
  pub known : Changes (row_bit words (row * shape.row_words)) (colour k) column (stop - column) changes
  pub rest : Rest words shape row from limit column (sweep_at shape row limit ring k column)

pub begins : {words : List ℕ} {shape : Shape} {row from limit stop first changes k : ℕ} {ring : List ℕ} → ring ≡ replicate 16 from → k ≡ 0
    → Limits shape → length words ≡ size shape → limit ≤ shape.width → from < limit
    → stop ≡ min (from - from % 64 + 64) limit → first ≡ row * shape.row_words → Changes (row_bit words first) true from (64 - from % 64) changes
    → Sweeping words shape row from limit ring k from stop changes
unfolding range mark_all
begins {from = from} {limit} {stop} made start limits stored narrow inside end is known =
    let nothing : from - from ≡ 0 = omega arith in
    let runs : buckets_of (replicate 16 from) 0 from ≡ replicate 11 0 = none_counted (replicate 16 from) from refl in
    rw (made, start)
    (record {
      limits = limits;
      narrow = narrow;
      stored = stored;
      after = omega arith;
      upto = omega arith;
      within = omega arith;
      word = omega arith;
      few = omega arith;
      sixteen = refl;
      starts = omega arith;
      counted = rw runs (counted_none (omega arith));
      known = changes_fewer (rw is at known) (omega arith);
      rest = λ m sized. rw (nothing, runs) resumes_start;
    })

-- nothing to look at
pub nothing_left : {words : List ℕ} {shape : Shape} {row from limit : ℕ} → limit ≤ from → Swept words shape row from limit None
unfolding window_by range mark_all
nothing_left {from = from} {limit} past =
    let no : limit - from ≡ 0 = omega arith in
    record { within = omega arith; ran = λ m sized. rw no (ran_done _) }

module _ {words : List ℕ} {shape : Shape} {row from limit : ℕ} {ring : List ℕ} {k column stop changes : ℕ}
    (sweep : Sweeping words shape row from limit ring k column stop changes) {n : ℕ} (zeros : n ≡ count_trailing_zeros 64 changes) where
  -- the columns up to the first change are of the present run's colour
  same : (e : ℕ) → e ≤ stop → e ≤ column + n → (j : ℕ) → column ≤ j → j < e → row_bit words (row * shape.row_words) j ≡ colour k
  same e known clear j low high =
      let there : column + (j - column) ≡ j = omega arith in
      ap (row_bit words (row * shape.row_words)) (sym there) ∙ same_until sweep.known (j - column) (omega arith) (omega arith)

  -- the run is behind, up to a column e
  ran_on : (e : ℕ) → column ≤ e → e ≤ stop → e ≤ column + n → Rest words shape row from limit e (sweep_at shape row limit ring k e)
  ran_on e after known clear m sized =
      let here : row * shape.row_words * 64 + from + (column - from) ≡ row * shape.row_words * 64 + column = omega (arith, sweep.after) in
      let sum : column - from + (e - column) ≡ e - from = omega (arith, sweep.after) in
      let joined : mark_all (Marked m shape row from (column - from)) (range (row * shape.row_words * 64 + column) (e - column))
      ≡ Marked m shape row from (e - from) =
      ap (λ (i : ℕ). mark_all (Marked m shape row from (column - from)) (range i (e - column))) (sym here)
      ∙ range_join m (row * shape.row_words * 64 + from) (column - from) (e - column) ∙ ap (Marked m shape row from) sum in
      rw joined
      at (resumes_run shape row limit sweep.stored ring k column e sweep.starts after (omega (arith, sweep.within)) (same e known clear)
      (length_mark_all m (range (row * shape.row_words * 64 + from) (column - from)) ∙ sized) (sweep.rest m sized))

  -- no change up to the limit
  pub at_limit : stop ≤ column + n → limit ≤ stop → Swept words shape row from limit None
  unfolding window_by
  at_limit clear past =
      let all : stop ≡ limit = omega (arith, sweep.within) in
      let no : limit - limit ≡ 0 = omega arith in
      record {
        within = omega arith;
        ran = λ m sized. (resumes_end (ran_done _) (rw (all, no) at (ran_on stop sweep.upto (omega arith) clear m sized)));
      }

  -- the next word
  pub refilled : {first more next : ℕ} {black : Bool} → stop ≤ column + n → stop < limit → first ≡ row * shape.row_words
      → Changes (row_bit words first) black stop (64 - stop % 64) more → black ≡ colour k → next ≡ min (stop - stop % 64 + 64) limit
      → Sweeping words shape row from limit ring k stop next more
  refilled clear short there known turn is = record {
    limits = sweep.limits;
    narrow = sweep.narrow;
    stored = sweep.stored;
    after = omega (arith, sweep.after, sweep.upto);
    upto = omega arith;
    within = omega arith;
    word = omega arith;
    few = omega (arith, sweep.few, sweep.upto);
    sixteen = sweep.sixteen;
    starts = omega (arith, sweep.starts, sweep.upto);
    counted = counted_to ring k column stop sweep.upto sweep.starts sweep.counted;
    known = changes_fewer (rw (there, turn) at known) (omega arith);
    rest = ran_on stop sweep.upto (omega arith) clear;
  }

  pub fewer : {next : ℕ} → stop < limit → next ≡ min (stop - stop % 64 + 64) limit → limit - stop + (limit - next) < limit - column + (limit - stop)
  fewer {next} short is =
      let more : stop < next = omega arith in
      omega (arith, sweep.upto)

  module _ {end : ℕ} (is : end ≡ column + n) (inside : end < stop) where
    pub short : n < 64
    short = omega (arith, sweep.word)

    turned : row_bit words (row * shape.row_words) end ≡ not (colour k)
    turned = ap (row_bit words (row * shape.row_words)) is ∙ changes_at sweep.known n (omega arith) short zeros

    runs : CountedRuns from end (min k 10) (buckets_of ring k end)
    runs = counted_to ring k column end (omega arith) sweep.starts sweep.counted

    -- what the window's metadata ask for
    sums : total (buckets_of ring k end) ≤ end
    sums = omega (arith, runs.sum)

    pub window_fits : {buckets : List ℕ} → Some buckets ≡ closed_by ring k end → (length buckets ≡ 11) × (total buckets ≤ end) × (end + 1 < 2 ^ 32)
    window_fits shut =
        let counts = (closed_some ring k end shut).1 in
        (ap length counts, rw counts sums, omega (arith, sweep.within, sweep.narrow, sweep.limits.width_most))

    -- the pixel after the run is read: what is left goes on at the next column
    marked : (m : List ℕ) → Marked m shape row from (end + 1 - from) ≡ mark (Marked m shape row from (end - from)) (row * shape.row_words * 64 + end)
    marked m =
        let more : end + 1 - from ≡ end - from + 1 = omega (arith, sweep.after) in
        let here : row * shape.row_words * 64 + from + (end - from) ≡ row * shape.row_words * 64 + end = omega (arith, sweep.after) in
        ap (Marked m shape row from) more ∙ range_last m (row * shape.row_words * 64 + from) (end - from)
        ∙ ap (mark (Marked m shape row from (end - from))) here

    pub closes : {buckets : List ℕ} {eye : Bullseye} → Some buckets ≡ closed_by ring k end → eye ≡ metadata buckets end
        → Swept words shape row from limit (Some eye)
    unfolding metadata
    closes shut window =
        let to : end - radius_of (buckets_of ring k end) + radius_of (buckets_of ring k end) + 1 ≡ end + 1 = omega (arith, sums) in
        rw (window, (closed_some ring k end shut).1)
        (record {
          within = omega (arith, sweep.within);
          ran = λ m sized. rw (to, marked m)
              (resumes_end (ran_done _)
              (resumes_closed shape row limit sweep.stored ring k end (omega (arith, sweep.within)) turned
              (length_mark_all m (range (row * shape.row_words * 64 + from) (end - from)) ∙ sized)
              (ran_on end (omega arith) (omega arith) (omega arith) m sized)
              (closed_some ring k end shut).0));
        })

    pub onward : {next_ring : List ℕ} {next_k : ℕ} → None ≡ closed_by ring k end → next_ring ≡ started ring k end → next_k ≡ k + 1
        → Sweeping words shape row from limit next_ring next_k (end + 1) stop (changes / 2 ^ n / 2 ^ 1)
    onward not_yet pushed counts =
        let left : stop - column - (n + 1) ≡ stop - (end + 1) = omega arith in
        let next : column + n + 1 ≡ end + 1 = omega arith in
        rw (pushed, counts)
        (record {
          limits = sweep.limits;
          narrow = sweep.narrow;
          stored = sweep.stored;
          after = omega (arith, sweep.after);
          upto = omega arith;
          within = sweep.within;
          word = omega (arith, sweep.word);
          few = omega (arith, sweep.few);
          sixteen = length-set ring ((k + 1) % 16) end ∙ sweep.sixteen;
          starts = rw (get_or-set_same ring ((k + 1) % 16) end 0 (omega (arith, sweep.sixteen))) (omega arith);
          counted = counted_change ring k end sweep.sixteen runs;
          known = rw (colour_next k, ← left, ← next) (changes_after sweep.known n (omega arith) short zeros);
          rest = λ m sized. rw (marked m)
              (resumes_next shape row limit sweep.stored ring k end (omega (arith, sweep.within)) turned
              (length_mark_all m (range (row * shape.row_words * 64 + from) (end - from)) ∙ sized)
              (ran_on end (omega arith) (omega arith) (omega arith) m sized)
              sweep.sixteen (closed_none ring k end not_yet));
        })
