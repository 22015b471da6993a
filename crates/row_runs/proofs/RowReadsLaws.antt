-- Which columns the row search reads (`reads_window`, `reads_no_window`, `reads_white`): from the start to the column that closes the window; with no window
-- to width − 7, and to width − 6 exactly if none of these is black (`limit_read`). Assumes nothing.
use Rattle.std.proofs.Common.{ℕ, zero, suc, ◌+◌, ◌-◌, ◌*◌, ◌%◌, ◌≤◌, ◌<◌, max, arith, ◌&&◌, ◌⊎◌, ◌↔◌, ◌≡◌, ltb, replicate, inl, inr, ◌∙◌, ltb-true, ltb-false, lt-ltb, List, [], ◌∷◌, ◌++◌, Option, Some, None}
use Rattle.std.proofs.Math.Decide.{dec_lt}
use Rattle.std.proofs.Math.Bool.{Bool, true, false, not, cond}
use Rattle.std.specs.Bool.{beq}
use Rattle.std.proofs.lemmas.Bool.{false≢true}
use Rattle.std.proofs.Math.Path.{refl, sym, ap, ap₂}
use mathlib.Core.List.Memᴰ
use mathlib.Core.List.{Memᴰ}
use Rattle.reads.specs.Reads.{Reads, done, read, ◌>>=◌, value, trace}
use Rattle.reads.proofs.ReadsLaws.{value_bind, trace_bind}
use Rattle.reads.specs.Bits.{bit_at, mark_all, range}
use Rattle.reads.proofs.BitsLaws.{mark_all_append, in_range}
use Rattle.reads.proofs.OrderLaws.{range_again}
use Rattle.reads.specs.Runs.{marks_of}
use Rattle.reads.specs.RunsClauses.{Ran}
use Rattle.bit_matrix.specs.declared.Shape.{Shape}
use Rattle.bit_matrix.specs.Shape.{size}
use Rattle.bit_matrix.specs.ShapeClauses.{Limits}
use Rattle.bit_matrix.specs.Pixels.{offset, pixel}
use Rattle.bit_matrix.specs.PixelsLaws.{inside_stored}
use Rattle.bit_runs.specs.BitRuns.{FirstBlack}
use Rattle.detector_widths.specs.Buckets.{bump}
use Rattle.detector_widths.specs.Widths.{valid_widths}
use Rattle.detector_window.specs.declared.Bullseye.{Bullseye}
use Rattle.detector_window.specs.Window.{metadata, without_first}
use Rattle.detector_first_window.specs.FirstWindow.{window_by}
use Rattle.detector_first_window.specs.FirstWindowClauses.{window_from, read_to}
use Rattle.detector_first_window.specs.ColouredLaws.{coloured_none}
use Rattle.detector_first_window.specs.FirstWindowLaws.{row_colours, CountedRuns, counted_none, counted_same, counted_next, counted_without, window_on}
use Rattle.detector_rows.specs.Rows.{skip_white, next_bullseye_by}
use Rattle.detector_rows.specs.RowsClauses.{next_bullseye}
use Rattle.row_runs.specs.RowRuns.{ColourRun, Window, Leftmost, closing_column}
use Rattle.row_runs.proofs.WindowsLaws.{none_if}
use Rattle.row_runs.proofs.RowSearchLaws.{skips_to, eye_found, searched_runs, row_search, leftmost_reported}

-- ---- the scan reads column by column

module _ (shape : Shape) (row : ℕ) (image : ℕ → Bool) (limit : ℕ)
    (stored : (x : ℕ) → x ≤ limit → trace (pixel shape x row) image ≡ (row * shape.row_words * 64 + x) ∷ []) where
  -- the bit of column 0
  abbrev base : ℕ
  base = row * shape.row_words * 64

  abbrev black : ℕ → Bool
  black = row_colours shape image row

  -- a program reads the columns from one to before another, one by one
  record Spans {A : Type 0} (from to : ℕ) (p : Reads A) : Type 0 where
    after : from ≤ to
    reads : trace p image ≡ range (base + from) (to - from)

  spans_done : {A : Type 0} (from to : ℕ) (a : A) → from ≡ to → Spans from to (done a)
  unfolding trace range
  spans_done from to a e =
      let none_more : to - from ≡ 0 = omega arith in
      record { after = omega arith; reads = sym (ap (range (base + from)) none_more) }

  spans_pixel : {A : Type 0} (from to : ℕ) (k : Bool → Reads A) → from ≤ limit → Spans (from + 1) to (k (black from))
      → Spans from to (pixel shape from row >>= k)
  unfolding range
  spans_pixel from to k low rest =
      let more : suc (to - (from + 1)) ≡ to - from = omega (arith, rest.after) in
      let next : base + (from + 1) ≡ base + from + 1 = omega arith in
      record {
        after = omega (arith, rest.after);
        reads = trace_bind (pixel shape from row) k image
            ∙ ap₂ ◌++◌ (stored from low) (rest.reads ∙ ap (λ (i : ℕ). range i (to - (from + 1))) next)
            ∙ ap (range (base + from)) more;
      }

  -- up to the first black column, and that too
  spans_skip : (n x : ℕ) → x + n ≤ limit → Spans x (value (skip_white shape row n x) image + 1) (skip_white shape row n x)
  unfolding skip_white value
  spans_skip zero x h =
      rw (value_bind (pixel shape x row) (λ _. done x) image)
      (spans_pixel x (x + 1) (λ _. done x) (omega arith) (spans_done (x + 1) (x + 1) x refl))
  spans_skip (suc n) x h =
      rw (value_bind (pixel shape x row) (λ seen. cond seen (done x) (skip_white shape row n (x + 1))) image)
      (spans_pixel x _ (λ seen. cond seen (done x) (skip_white shape row n (x + 1))) (omega arith)
      (go (black x) (spans_skip n (x + 1) (omega arith))))
    where
      go : (seen : Bool) → Spans (x + 1) (value (skip_white shape row n (x + 1)) image + 1) (skip_white shape row n (x + 1))
          → Spans (x + 1) (value (cond seen (done x) (skip_white shape row n (x + 1))) image + 1) (cond seen (done x) (skip_white shape row n (x + 1)))
      go true later = spans_done (x + 1) (x + 1) x refl
      go false later = later

  -- up to the column that closes the window, or to before the limit
  abbrev SpansWindow : ℕ → Reads (Option Bullseye) → Type 0
  SpansWindow column p = Spans column (read_to limit (value p image)) p

  spans_cond : (column : ℕ) (t : Bool) {p q : Reads (Option Bullseye)} → (t ≡ true → SpansWindow column p) → (t ≡ false → SpansWindow column q)
      → SpansWindow column (cond t p q)
  spans_cond column true f g = f refl
  spans_cond column false f g = g refl

  spans_closed : {start : ℕ} (column pointer : ℕ) (buckets : List ℕ) → CountedRuns start column pointer buckets
      → SpansWindow (column + 1) (done (Some (metadata buckets column)))
  unfolding value metadata
  spans_closed column pointer buckets counted = spans_done (column + 1) _ _ (omega (arith, counted.sum))

  spans_next : (column : ℕ) (k : Bool → Reads (Option Bullseye)) → column ≤ limit → SpansWindow (column + 1) (k (black column))
      → SpansWindow column (pixel shape column row >>= k)
  spans_next column k low rest = rw (value_bind (pixel shape column row) k image) (spans_pixel column _ k low rest)

  spans_window : {start : ℕ} (n column : ℕ) (last : Bool) (pointer : ℕ) (buckets : List ℕ) → column + n ≡ limit → CountedRuns start column pointer buckets
      → SpansWindow column (window_from shape row n column last pointer buckets)
  unfolding window_by value
  spans_window zero column last pointer buckets h counted = spans_done column limit None (omega arith)
  spans_window (suc n) column last pointer buckets h counted =
      let seen : Bool = black column in
      spans_next column _ (omega arith)
      (spans_cond (column + 1) (beq seen last)
      (λ _. spans_window n (column + 1) last pointer (bump buckets pointer) (omega arith) (counted_same counted))
      (λ _. spans_cond (column + 1) (ltb pointer 10)
      (λ early. spans_window n (column + 1) seen (pointer + 1) (bump buckets (pointer + 1)) (omega arith) (counted_next counted (ltb-true pointer 10 early)))
      (λ late. spans_cond (column + 1) (valid_widths buckets && not seen)
      (λ _. spans_closed column pointer buckets counted)
      (λ _. spans_window n (column + 1) seen pointer (without_first buckets) (omega arith) (counted_without counted (ltb-false pointer 10 late))))))

-- ---- the bits of a trace

-- exactly the bits of the columns from `from` to before `to`; marked, they are that range marked
pub record Covers (bits : List ℕ) (base from to : ℕ) : Type 0 where
  pub exactly : (i : ℕ) → Memᴰ i bits ↔ ((base + from ≤ i) × (i < base + to))
  pub marked : (marks : List ℕ) → mark_all marks bits ≡ mark_all marks (range (base + from) (to - from))

-- the columns up to one, and those from it on
covers_two : (base from first to : ℕ) → from ≤ first
    → Covers (range (base + from) (first + 1 - from) ++ range (base + first) (to - first)) base from (max (first + 1) to)
covers_two base from first to low = record {
  exactly = λ i. (λ m. forth i (Memᴰ.append_cases front m), λ h. back i h.0 h.1 (dec_lt i (base + (first + 1))));
  marked = marked;
}
  where
    front : List ℕ
    front = range (base + from) (first + 1 - from)

    rest : List ℕ
    rest = range (base + first) (to - first)

    forth : (i : ℕ) → Memᴰ i front ⊎ Memᴰ i rest → (base + from ≤ i) × (i < base + max (first + 1) to)
    forth i (inl m) = omega (arith, (in_range i (base + from) (first + 1 - from)).0 m)
    forth i (inr m) = omega (arith, (in_range i (base + first) (to - first)).0 m)

    back : (i : ℕ) → base + from ≤ i → i < base + max (first + 1) to → Dec (i < base + (first + 1)) → Memᴰ i (front ++ rest)
    back i l h (yes early) = Memᴰ.append_left rest ((in_range i (base + from) (first + 1 - from)).1 (omega arith, omega arith))
    back i l h (no late) = Memᴰ.append_right front ((in_range i (base + first) (to - first)).1 (omega arith, omega arith))

    marked : (marks : List ℕ) → mark_all marks (front ++ rest) ≡ mark_all marks (range (base + from) (max (first + 1) to - from))
    marked marks =
        let one : first + 1 - from ≡ first - from + 1 = omega arith in
        let here : base + first ≡ base + from + (first - from) = omega arith in
        let all : first - from + max (to - first) 1 ≡ max (first + 1) to - from = omega arith in
        mark_all_append marks front rest
        ∙ ap₂ (λ (n i : ℕ). mark_all (mark_all marks (range (base + from) n)) (range i (to - first))) one here
        ∙ range_again marks (base + from) (first - from) (to - first)
        ∙ ap (λ (n : ℕ). mark_all marks (range (base + from) n)) all

-- ---- rows of an accepted image

-- a pixel of the image is read by its bit
pixel_read : {shape : Shape} → Limits shape → (image : ℕ → Bool) (x row : ℕ) → x < shape.width → row < shape.height
    → trace (pixel shape x row) image ≡ (row * shape.row_words * 64 + x) ∷ []
unfolding pixel trace
pixel_read {shape} limits image x row low inside =
    let flat : offset shape x row * 64 + x % 64 ≡ row * shape.row_words * 64 + x = omega arith in
    ap (λ (t : Bool). trace (cond t (read (offset shape x row * 64 + x % 64) done) (done false)) image)
    (lt-ltb (offset shape x row) (size shape) (inside_stored limits x row (record { column = low; row = inside })))
    ∙ ap (λ (i : ℕ). i ∷ []) flat

module _ {shape : Shape} (limits : Limits shape) (row start : ℕ) (image : ℕ → Bool) (inside : row < shape.height) (low : start < shape.width - 6) where
  -- what the search reads
  abbrev pub bits_read : List ℕ
  bits_read = trace (next_bullseye shape row start) image

  -- its result, and the runs of the row
  abbrev found : Option Bullseye
  found = eye_found shape row start image

  abbrev pub its_runs : List ColourRun
  its_runs = searched_runs shape row start image

  -- the columns from the start to before `to`, of this row
  abbrev pub ReadsTo : ℕ → Type 0
  ReadsTo to = Covers bits_read (row * shape.row_words * 64) start to

  -- no column from the start to width − 7 is black
  abbrev pub AllWhite : Type 0
  AllWhite = (x : ℕ) → start ≤ x → x < shape.width - 6 → row_colours shape image row x ≡ false

  stored : (x : ℕ) → x ≤ shape.width - 6 → trace (pixel shape x row) image ≡ (row * shape.row_words * 64 + x) ∷ []
  stored x h = pixel_read limits image x row (omega (arith, limits.width_least)) inside

  abbrev skip : Reads ℕ
  skip = skip_white shape row (shape.width - 6 - start) start

  abbrev first : ℕ
  first = value skip image

  ends : FirstBlack (row_colours shape image row) start (shape.width - 6) first
  ends =
      let reach : start + (shape.width - 6 - start) ≡ shape.width - 6 = omega arith in
      rw reach at (skips_to shape row image (shape.width - 6 - start) start)

  abbrev scan : ℕ → Reads (Option Bullseye)
  scan x = window_from shape row (shape.width - 6 - x) x true 0 (replicate 11 0)

  found_scanned : found ≡ value (scan first) image
  unfolding next_bullseye_by
  found_scanned = value_bind skip scan image

  covers : ReadsTo (max (first + 1) (read_to (shape.width - 6) found))
  unfolding next_bullseye_by
  covers =
      let limit : ℕ = shape.width - 6 in
      let base : ℕ = row * shape.row_words * 64 in
      let skips = spans_skip shape row image limit stored (limit - start) start (omega arith) in
      let scans = spans_window shape row image limit stored {start = start} (limit - first) first true 0 (replicate 11 0) (omega (arith, ends.within))
      (counted_none ends.after) in
      let reads : bits_read ≡ range (base + start) (first + 1 - start) ++ range (base + first) (read_to limit found - first) =
      trace_bind skip scan image
      ∙ ap₂ ◌++◌ skips.reads
      (scans.reads ∙ ap (λ (e : Option Bullseye). range (base + first) (read_to limit e - first)) (sym found_scanned)) in
      rw reads (covers_two base start first (read_to limit found) ends.after)

  -- With a window: up to the column that closes the leftmost one.
  pub reads_window : (k : ℕ) → Leftmost (shape.width - 6) its_runs k → ReadsTo (closing_column its_runs k + 1)
  reads_window k at =
      let reported = leftmost_reported shape row start image (omega arith) k at in
      let closed = rw (sym found_scanned ∙ reported.found) at (window_on shape row image {start = first} (shape.width - 6 - first) first true 0
      (replicate 11 0) (omega arith) (counted_none (omega arith)) coloured_none).holds in
      let to : max (first + 1) (read_to (shape.width - 6) found) ≡ closing_column its_runs k + 1 =
      rw reported.found (omega (arith, reported.closing, closed.after_start)) in
      rw to at covers

  -- With no black column: up to width − 6.
  pub reads_white : AllWhite → ReadsTo (shape.width - 6 + 1)
  unfolding window_by value
  reads_white white =
      let all : first ≡ shape.width - 6 = go (dec_lt first (shape.width - 6)) in
      let none_more : shape.width - 6 - first ≡ 0 = omega arith in
      let nothing : found ≡ None =
      found_scanned ∙ ap (λ (n : ℕ). value (window_from shape row n first true 0 (replicate 11 0)) image) none_more in
      let to : max (first + 1) (read_to (shape.width - 6) found) ≡ shape.width - 6 + 1 = rw nothing (omega arith) in
      rw to at covers
    where
      go : Dec (first < shape.width - 6) → first ≡ shape.width - 6
      go (yes early) = absurd (false≢true (sym (white first ends.after early) ∙ ends.black early))
      go (no h) = omega (arith, ends.within)

  none_found : ((k : ℕ) → ¬ Window (shape.width - 6) its_runs k) → found ≡ None
  none_found = none_if (row_search shape row start image (omega arith))

  module _ (no_window : (k : ℕ) → ¬ Window (shape.width - 6) its_runs k) where
    -- With no window, and a black column: up to width − 7.
    pub reads_no_window : (x : ℕ) → start ≤ x → x < shape.width - 6 → row_colours shape image row x ≡ true → ReadsTo (shape.width - 6)
    reads_no_window x after before dark =
        let near : first ≤ x = go (dec_lt x first) in
        let to : max (first + 1) (read_to (shape.width - 6) found) ≡ shape.width - 6 = rw (none_found no_window) (omega arith) in
        rw to at covers
      where
        go : Dec (x < first) → first ≤ x
        go (yes later) = absurd (false≢true (sym (ends.white x after later) ∙ dark))
        go (no h) = omega arith

    -- So column width − 6 is read exactly if no column before it is black.
    pub limit_read : Memᴰ (row * shape.row_words * 64 + (shape.width - 6)) bits_read ↔ AllWhite
    limit_read =
        (λ m x after before. go x (row_colours shape image row x) refl m after before, λ white. ((reads_white white).exactly _).1 (omega arith, omega arith))
      where
        go : (x : ℕ) (b : Bool) → row_colours shape image row x ≡ b → Memᴰ (row * shape.row_words * 64 + (shape.width - 6)) bits_read
            → start ≤ x → x < shape.width - 6 → b ≡ false
        go x true e m after before = absurd (omega (arith, ((reads_no_window x after before e).exactly _).0 m))
        go x false e m after before = refl

    -- One or the other: to width − 6 where all is white, and to width − 7 elsewhere.
    pub reads_none : (AllWhite × ReadsTo (shape.width - 6 + 1)) ⊎ ((¬ AllWhite) × ReadsTo (shape.width - 6))
    reads_none = go (dec_lt first (shape.width - 6))
      where
        go : Dec (first < shape.width - 6) → (AllWhite × ReadsTo (shape.width - 6 + 1)) ⊎ ((¬ AllWhite) × ReadsTo (shape.width - 6))
        go (yes early) =
            inr (λ white. false≢true (sym (white first ends.after early) ∙ ends.black early), reads_no_window first ends.after early (ends.black early))
        go (no late) =
            let white : AllWhite = λ x after before. ends.white x after (omega (arith, ends.within)) in
            inl (white, reads_white white)

-- ---- of the function's marks

-- what `find_next_bullseye_horizontal` ensures of its marks says that they are one range more
pub ran_reads : {shape : Shape} (limits : Limits shape) (row start : ℕ) {words before after : List ℕ} {found : Option Bullseye} {to : ℕ} (inside : row < shape.height)
    (low : start < shape.width - 6) → ReadsTo limits row start (bit_at words) inside low to → Ran (next_bullseye shape row start) words before found after
    → after ≡ mark_all before (range (row * shape.row_words * 64 + start) (to - start))
unfolding marks_of
ran_reads limits row start {before = before} inside low reads ran = ran.marked ∙ reads.marked before
