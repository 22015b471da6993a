-- The scan of detector_first_window in the middle of a row: it holds the last runs, eleven at most, and comes to the answer over what it holds and what is to
-- come. Assumes nothing.
use Rattle.std.proofs.Common.{ℕ, zero, suc, ◌+◌, ◌-◌, ◌≤◌, ◌<◌, arith, sym, ap₂, ◌∙◌, lt-ltb, le-ltb, Bool, ◌&&◌, ◌≡◌, ltb, set, replicate, List, [], ◌∷◌, ◌++◌, Option, Some}
use Rattle.std.proofs.Math.Bool.{true, false, not, cond, not-not, and-eq-true_iff}
use Rattle.std.specs.Bool.{beq}
use Rattle.std.proofs.lemmas.Bool.{false≢true}
use Rattle.std.proofs.Math.Path.{refl, ap}
use Rattle.std.proofs.Math.ListN.{length, length-append}
use Rattle.std.proofs.lemmas.List.{length-map, set_at, get_or_at, map-append}
use Rattle.std.proofs.Math.Seq.{append_snoc, get_or-append-add}
use Rattle.reads.specs.Reads.{Reads, done, value}
use Rattle.reads.proofs.ReadsLaws.{value_bind}
use Rattle.reads.specs.Bits.{range}
use Rattle.bit_matrix.specs.declared.Shape.{Shape}
use Rattle.bit_matrix.specs.Pixels.{pixel}
use Rattle.detector_widths.specs.Buckets.{bump}
use Rattle.detector_widths.specs.Widths.{valid_widths}
use Rattle.detector_window.specs.declared.Bullseye.{Bullseye}
use Rattle.detector_window.specs.Window.{metadata, without_first}
use Rattle.detector_first_window.specs.FirstWindow.{window_by}
use Rattle.detector_first_window.specs.FirstWindowClauses.{window_from}
use Rattle.detector_first_window.specs.FirstWindowLaws.{row_colours}
use Rattle.detector_first_window.specs.ColouredLaws.{colour_before}
use Rattle.row_runs.specs.RowRuns.{ColourRun, put_before, one_column, colour_runs, run_at, lengths, Window, eye_at, RowAnswer, nowhere}
use Rattle.row_runs.proofs.RowRunsLaws.{by_colour, merged, put_same, put_other, Begins, put_begins, put_later, first_column_lem}
use Rattle.row_runs.proofs.WindowsLaws.{window_is, first_eleven, twelfth, first_dropped, first_answers, none_late}

-- ---- runs at or past a column

pub runs_late : (black : ℕ → Bool) (limit x n : ℕ) → limit ≤ x → (k : ℕ) → k < length (colour_runs black (range x n))
    → limit ≤ (run_at (colour_runs black (range x n)) k).first
unfolding colour_runs range
runs_late black limit x zero far k h = absurd (omega arith)
runs_late black limit x (suc n) far zero h = omega (arith, first_column_lem black x (suc n) h)
runs_late black limit x (suc n) far (suc k) h =
    put_later (λ r. limit ≤ r.first) (one_column black x) (colour_runs black (range (x + 1) n)) (runs_late black limit (x + 1) n (omega arith)) k h

-- ---- what the scan holds

-- the colours of runs take turns, and the one after them has colour c
abbrev pub TurnsBefore : List ColourRun → Bool → Type 0
TurnsBefore [] c = Unit {0}
TurnsBefore (r ∷ rs) c = (r.colour ≡ colour_before (suc (length rs)) c) × TurnsBefore rs c

turns_next : (rs : List ColourRun) (r : ColourRun) (c : Bool) → TurnsBefore rs c → r.colour ≡ c → TurnsBefore (rs ++ r ∷ []) (not c)
turns_next [] r c turns e = (e ∙ sym (not-not c), tt)
turns_next (s ∷ rs) r c turns e =
    let one_more : length (rs ++ r ∷ []) ≡ suc (length rs) = length-append rs (r ∷ []) ∙ omega arith in (
      turns.0 ∙ ap (colour_before (suc (length rs))) (sym (not-not c)) ∙ ap (λ (n : ℕ). colour_before (suc n) (not c)) (sym one_more),
      turns_next rs r c turns.1 e,
    )

-- The runs `earlier` are whole, `present` is the run so far, and `spare` buckets are not used yet.
pub record Held (last : Bool) (pointer : ℕ) (buckets : List ℕ) (earlier : List ColourRun) (present : ColourRun) (spare : ℕ) : Type 0 where
  pub place : length earlier ≡ pointer
  pub room : pointer + spare ≡ 10
  pub kept : buckets ≡ lengths earlier ++ present.length ∷ replicate spare 0
  pub colour : present.colour ≡ last
  pub turned : TurnsBefore earlier last

bump_at : (xs : List ℕ) (y : ℕ) (ys : List ℕ) (n : ℕ) → length xs ≡ n → bump (xs ++ y ∷ ys) n ≡ xs ++ (y + 1) ∷ ys
unfolding bump
bump_at xs y ys n e = ap (λ (z : ℕ). set (xs ++ y ∷ ys) n (z + 1)) (get_or_at xs y ys 0 n e) ∙ set_at xs y ys (y + 1) n e

snoc_lengths : (rs : List ColourRun) (r : ColourRun) (ns : List ℕ) → lengths (rs ++ r ∷ []) ++ ns ≡ lengths rs ++ r.length ∷ ns
snoc_lengths rs r ns =
    ap (λ (l : List ℕ). l ++ ns) (map-append (λ (s : ColourRun). s.length) rs (r ∷ [])) ∙ append_snoc (lengths rs) r.length ns

module _ {last : Bool} {pointer : ℕ} {buckets : List ℕ} {present : ColourRun} (next : ColourRun) (single : next.length ≡ 1) where
  -- one pixel more in the present run
  held_same : {earlier : List ColourRun} {spare : ℕ} → Held last pointer buckets earlier present spare
      → Held last pointer (bump buckets pointer) earlier (merged present next) spare
  held_same {earlier} {spare} held = record {
    place = held.place;
    room = held.room;
    kept = ap (λ (b : List ℕ). bump b pointer) held.kept
        ∙ bump_at (lengths earlier) present.length (replicate spare 0) pointer (length-map earlier _ ∙ held.place)
        ∙ ap (λ (n : ℕ). lengths earlier ++ (present.length + n) ∷ replicate spare 0) (sym single);
    colour = held.colour;
    turned = held.turned;
  }

  module _ (other : next.colour ≡ not last) where
    -- the next run begun
    held_next : {earlier : List ColourRun} {spare : ℕ} → Held last pointer buckets earlier present (suc spare)
        → Held (not last) (pointer + 1) (bump buckets (pointer + 1)) (earlier ++ present ∷ []) next spare
    held_next {earlier} {spare} held =
        let long : length (earlier ++ present ∷ []) ≡ pointer + 1 = length-append earlier (present ∷ []) ∙ omega (arith, held.place) in
        record {
          place = long;
          room = omega (arith, held.room);
          kept = ap (λ (b : List ℕ). bump b (pointer + 1)) (held.kept ∙ sym (snoc_lengths earlier present (0 ∷ replicate spare 0)))
              ∙ bump_at (lengths (earlier ++ present ∷ [])) 0 (replicate spare 0) (pointer + 1) (length-map (earlier ++ present ∷ []) _ ∙ long)
              ∙ ap (λ (n : ℕ). lengths (earlier ++ present ∷ []) ++ n ∷ replicate spare 0) (sym single);
          colour = other;
          turned = turns_next earlier present last held.turned held.colour;
        }

    -- the first run dropped
    held_without : {r : ColourRun} {earlier : List ColourRun} → Held last pointer buckets (r ∷ earlier) present 0
        → Held (not last) pointer (without_first buckets) (earlier ++ present ∷ []) next 0
    held_without {r} {earlier} held = record {
      place = length-append earlier (present ∷ []) ∙ omega (arith, held.place);
      room = held.room;
      kept = ap without_first held.kept
          ∙ ap (λ (l : List ℕ). l ++ 1 ∷ []) (sym (map-append (λ (s : ColourRun). s.length) earlier (present ∷ [])))
          ∙ ap (λ (n : ℕ). lengths (earlier ++ present ∷ []) ++ n ∷ []) (sym single);
      colour = other;
      turned = turns_next earlier present last held.turned.1 held.colour;
    }

-- before the first pixel, at a black one
pub held_none : (x : ℕ) → Held true 0 (replicate 11 0) [] (record { colour = true; first = x; length = 0 }) 10
held_none x = record { place = refl; room = refl; kept = refl; colour = refl; turned = tt }

-- ---- eleven runs held, and the pixel after them

ten_before : (c : Bool) → colour_before 10 c ≡ c
ten_before true = refl
ten_before false = refl

module _ {last : Bool} {pointer : ℕ} {buckets : List ℕ} {r : ColourRun} {earlier : List ColourRun} {present : ColourRun}
    (held : Held last pointer buckets (r ∷ earlier) present 0) where
  nine : length earlier ≡ 9
  nine = omega (arith, held.place, held.room)

  ten : length (earlier ++ present ∷ []) ≡ 10
  ten = length-append earlier (present ∷ []) ∙ omega (arith, nine)

  -- the first has the colour of the last
  first_colour : r.colour ≡ last
  first_colour = held.turned.0 ∙ ap (λ (n : ℕ). colour_before (suc n) last) nine ∙ ten_before last

  eleven_lengths : buckets ≡ lengths (r ∷ earlier ++ present ∷ [])
  eleven_lengths = held.kept ∙ sym (map-append (λ (s : ColourRun). s.length) (r ∷ earlier) (present ∷ []))

  module _ (limit : ℕ) (next : ColourRun) (rs : List ColourRun) (other : next.colour ≡ not last) (low : next.first < limit) where
    -- all runs, the eleven first
    abbrev whole : List ColourRun
    whole = r ∷ (earlier ++ present ∷ []) ++ next ∷ rs

    -- the scan's test tells whether they begin with a window
    test_window : valid_widths buckets && not (not last) ≡ true → Window limit whole 0
    test_window test =
        let both = (and-eq-true_iff (valid_widths buckets) (not (not last))).0 test in
        let dark : last ≡ true = sym (not-not last) ∙ both.1 in
        (window_is r (earlier ++ present ∷ []) next rs ten limit).1 (record {
          black = first_colour ∙ dark;
          passes = ap valid_widths (sym eleven_lengths) ∙ both.0;
          white = other ∙ ap not dark;
          below = low;
        })

    window_test : Window limit whole 0 → valid_widths buckets && not (not last) ≡ true
    window_test w =
        let is = (window_is r (earlier ++ present ∷ []) next rs ten limit).0 w in
        (and-eq-true_iff (valid_widths buckets) (not (not last))).1
        (ap valid_widths eleven_lengths ∙ is.passes, not-not last ∙ sym first_colour ∙ is.black)

    eye_is : metadata buckets next.first ≡ eye_at whole 0
    eye_is =
        ap₂ metadata
        (eleven_lengths ∙ ap lengths (sym (first_eleven r (earlier ++ present ∷ []) next rs ten)))
        (ap (λ (s : ColourRun). s.first) (sym (twelfth r (earlier ++ present ∷ []) next rs ten)))

-- ---- the scan comes to the answer

-- the same runs, the same result
pub answer_same : {limit : ℕ} {rs ss : List ColourRun} {found seen : Option Bullseye} → rs ≡ ss → found ≡ seen → RowAnswer limit ss seen
    → RowAnswer limit rs found
answer_same e f answer = rw (e, f) answer

value_cond : {A : Type 0} (t : Bool) (p q : Reads A) (image : ℕ → Bool) → value (cond t p q) image ≡ cond t (value p image) (value q image)
value_cond true p q image = refl
value_cond false p q image = refl

module _ (shape : Shape) (row : ℕ) (image : ℕ → Bool) where
  abbrev black : ℕ → Bool
  black = row_colours shape image row

  -- the scan with n columns left
  abbrev scanned : ℕ → ℕ → Bool → ℕ → List ℕ → Option Bullseye
  scanned n column last pointer buckets = value (window_from shape row n column last pointer buckets) image

  -- what is left to do on a pixel
  abbrev step : ℕ → ℕ → Bool → ℕ → List ℕ → Bool → Reads (Option Bullseye)
  step n column last pointer buckets seen =
      cond (beq seen last)
      (window_from shape row n (column + 1) last pointer (bump buckets pointer))
      (cond (ltb pointer 10)
      (window_from shape row n (column + 1) seen (pointer + 1) (bump buckets (pointer + 1)))
      (cond (valid_widths buckets && not seen)
      (done (Some (metadata buckets column)))
      (window_from shape row n (column + 1) seen pointer (without_first buckets))))

  scan_step : (n column : ℕ) (last : Bool) (pointer : ℕ) (buckets : List ℕ)
      → scanned (suc n) column last pointer buckets ≡ value (step n column last pointer buckets (black column)) image
  unfolding window_by
  scan_step n column last pointer buckets = value_bind (pixel shape column row) (step n column last pointer buckets) image

  step_same : (n column : ℕ) (last : Bool) (pointer : ℕ) (buckets : List ℕ)
      → value (step n column last pointer buckets last) image ≡ scanned n (column + 1) last pointer (bump buckets pointer)
  step_same n column true pointer buckets = refl
  step_same n column false pointer buckets = refl

  module _ (n column : ℕ) (last : Bool) (pointer : ℕ) (buckets : List ℕ) where
    -- the next run begun
    abbrev begun : Option Bullseye
    begun = scanned n (column + 1) (not last) (pointer + 1) (bump buckets (pointer + 1))

    -- eleven runs tested
    abbrev tried : Bool → Option Bullseye
    tried pass = cond pass (Some (metadata buckets column)) (scanned n (column + 1) (not last) pointer (without_first buckets))

    step_other : value (step n column last pointer buckets (not last)) image ≡ cond (ltb pointer 10) begun (tried (valid_widths buckets && not (not last)))
    unfolding value
    step_other = by_last last
      where
        by_last : (seen : Bool) → value (step n column seen pointer buckets (not seen)) image
            ≡ cond (ltb pointer 10) (scanned n (column + 1) (not seen) (pointer + 1) (bump buckets (pointer + 1)))
            (cond (valid_widths buckets && not (not seen)) (Some (metadata buckets column)) (scanned n (column + 1) (not seen) pointer (without_first buckets)))
        by_last true = value_cond (ltb pointer 10) _ _ image ∙ ap (cond (ltb pointer 10) _) (value_cond (valid_widths buckets && true) _ _ image)
        by_last false = value_cond (ltb pointer 10) _ _ image ∙ ap (cond (ltb pointer 10) _) (value_cond (valid_widths buckets && false) _ _ image)

    step_few : pointer < 10 → value (step n column last pointer buckets (not last)) image ≡ begun
    step_few few = step_other ∙ ap (λ (t : Bool). cond t begun (tried (valid_widths buckets && not (not last)))) (lt-ltb pointer 10 few)

    step_full : 10 ≤ pointer → value (step n column last pointer buckets (not last)) image ≡ tried (valid_widths buckets && not (not last))
    step_full full = step_other ∙ ap (λ (t : Bool). cond t begun (tried (valid_widths buckets && not (not last)))) (le-ltb pointer 10 full)

  -- `tail` are the columns of the row from the limit on: no window is closed there
  module _ (limit : ℕ) (tail : List ℕ) (far : (k : ℕ) → k < length (colour_runs black tail) → limit ≤ (run_at (colour_runs black tail) k).first) where
    -- the runs still to come, from a column on
    abbrev ahead : ℕ → ℕ → List ColourRun
    ahead column n = colour_runs black (range column n ++ tail)

    -- with n columns left, whatever the scan holds
    abbrev Scans : ℕ → Type 0
    Scans n = (column : ℕ) (last : Bool) (pointer : ℕ) (buckets : List ℕ) (earlier : List ColourRun) (present : ColourRun) (spare : ℕ)
        → column + n ≡ limit → Held last pointer buckets earlier present spare
        → RowAnswer limit (earlier ++ put_before present (ahead column n)) (scanned n column last pointer buckets)

    scans_none : Scans 0
    unfolding window_by value range
    scans_none column last pointer buckets earlier present spare h held =
        nowhere (none_late limit (earlier ++ put_before present (colour_runs black tail)) late) refl
      where
        late : (k : ℕ) → 11 ≤ k → k < length (earlier ++ put_before present (colour_runs black tail))
            → limit ≤ (run_at (earlier ++ put_before present (colour_runs black tail)) k).first
        late k many inside =
            let i : ℕ = k - length earlier - 1 in
            let place : k ≡ length earlier + suc i = omega (arith, held.place, held.room) in
            let there : run_at (earlier ++ put_before present (colour_runs black tail)) k ≡ run_at (put_before present (colour_runs black tail)) (suc i) =
            ap (run_at (earlier ++ put_before present (colour_runs black tail))) place
            ∙ get_or-append-add earlier (put_before present (colour_runs black tail)) (suc i) (run_at [] 0) in
            rw there
            (put_later (λ s. limit ≤ s.first) present (colour_runs black tail) far i
            (omega (arith, place, length-append earlier (put_before present (colour_runs black tail)))))

    module _ (n : ℕ) (later : Scans n) (column : ℕ) (last : Bool) (pointer : ℕ) (buckets : List ℕ) (before : column + suc n ≡ limit) where
      -- the pixel at hand, and the runs after it
      abbrev here : ColourRun
      here = one_column black column

      abbrev rest : List ColourRun
      rest = ahead (column + 1) n

      scans_same : (earlier : List ColourRun) (present : ColourRun) (spare : ℕ) → black column ≡ last → Held last pointer buckets earlier present spare
          → RowAnswer limit (earlier ++ put_before present (put_before here rest)) (value (step n column last pointer buckets last) image)
      scans_same earlier present spare same held =
          answer_same
          (ap (λ (l : List ColourRun). earlier ++ l) (put_same present here rest (held.colour ∙ sym same)))
          (step_same n column last pointer buckets)
          (later (column + 1) last pointer (bump buckets pointer) earlier (merged present here) spare (omega arith) (held_same here refl held))

      module _ (other : black column ≡ not last) where
        -- fewer than eleven runs
        scans_few : (earlier : List ColourRun) (present : ColourRun) (spare : ℕ) → Held last pointer buckets earlier present (suc spare)
            → RowAnswer limit (earlier ++ present ∷ put_before here rest) (value (step n column last pointer buckets (not last)) image)
        scans_few earlier present spare held =
            answer_same
            (sym (append_snoc earlier present (put_before here rest)))
            (step_few n column last pointer buckets (omega (arith, held.room)))
            (later (column + 1) (not last) (pointer + 1) (bump buckets (pointer + 1)) (earlier ++ present ∷ []) here spare (omega arith)
            (held_next here refl other held))

        -- eleven runs, which are a window or lose their first
        scans_full : (r : ColourRun) (earlier : List ColourRun) (present : ColourRun) → Held last pointer buckets (r ∷ earlier) present 0
            → RowAnswer limit (r ∷ earlier ++ present ∷ put_before here rest) (value (step n column last pointer buckets (not last)) image)
        scans_full r earlier present held =
            answer_same
            (ap (λ (l : List ColourRun). r ∷ l) (sym (append_snoc earlier present (put_before here rest))))
            (step_full n column last pointer buckets (omega (arith, held.room)))
            (tested (valid_widths buckets && not (not last)) refl)
          where
            begins : Begins here (put_before here rest)
            begins = put_begins here rest

            next : ColourRun
            next = begins.head

            all : List ColourRun
            all = r ∷ (earlier ++ present ∷ []) ++ put_before here rest

            all_is : all ≡ r ∷ (earlier ++ present ∷ []) ++ next ∷ begins.others
            all_is = ap (λ (l : List ColourRun). r ∷ (earlier ++ present ∷ []) ++ l) begins.is

            turned : next.colour ≡ not last
            turned = begins.colour ∙ other

            low : next.first < limit
            low = omega (arith, begins.first)

            tested : (t : Bool) → valid_widths buckets && not (not last) ≡ t
                → RowAnswer limit all (tried n column last pointer buckets t)
            tested true test =
                answer_same all_is
                (ap (λ (x : ℕ). Some (metadata buckets x)) (sym begins.first) ∙ ap Some (eye_is held limit next begins.others turned low))
                (first_answers (test_window held limit next begins.others turned low test))
            tested false test =
                first_dropped
                (λ w. false≢true (sym test ∙ window_test held limit next begins.others turned low (rw all_is at w)))
                (later (column + 1) (not last) pointer (without_first buckets) (earlier ++ present ∷ []) here 0 (omega arith)
                (held_without here refl other held))

        scans_other : (earlier : List ColourRun) (present : ColourRun) (spare : ℕ) → Held last pointer buckets earlier present spare
            → RowAnswer limit (earlier ++ put_before present (put_before here rest)) (value (step n column last pointer buckets (not last)) image)
        scans_other earlier present spare held =
            answer_same
            (ap (λ (l : List ColourRun). earlier ++ l) (put_other present here rest (held.colour ∙ sym (ap not other ∙ not-not last))))
            refl
            (by_room earlier spare held)
          where
            by_room : (earlier : List ColourRun) (spare : ℕ) → Held last pointer buckets earlier present spare
                → RowAnswer limit (earlier ++ present ∷ put_before here rest) (value (step n column last pointer buckets (not last)) image)
            by_room earlier (suc spare) held = scans_few earlier present spare held
            by_room [] zero held = absurd (omega (arith, held.place, held.room))
            by_room (r ∷ earlier) zero held = scans_full r earlier present held

    scans_more : (n : ℕ) → Scans n → Scans (suc n)
    unfolding range colour_runs
    scans_more n later column last pointer buckets earlier present spare before held =
        by_colour
        (λ _. RowAnswer limit (earlier ++ put_before present (put_before (one_column black column) (ahead (column + 1) n)))
        (scanned (suc n) column last pointer buckets))
        last (black column)
        (λ same. answer_same refl (seen same) (scans_same n later column last pointer buckets before earlier present spare same held))
        (λ other. answer_same refl (seen other) (scans_other n later column last pointer buckets before other earlier present spare held))
      where
        seen : {colour : Bool} → black column ≡ colour → scanned (suc n) column last pointer buckets ≡ value (step n column last pointer buckets colour) image
        seen e = scan_step n column last pointer buckets ∙ ap (λ (c : Bool). value (step n column last pointer buckets c) image) e

    pub scans : (n : ℕ) → Scans n
    scans zero = scans_none
    scans (suc n) = scans_more n (scans n)
