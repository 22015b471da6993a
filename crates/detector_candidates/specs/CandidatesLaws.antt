-- What holds of the sweep, on the image at hand: each candidate is fit for the steps after the sweep; and that the sweep with the source's test
-- of the widths is the same. Assumes nothing.
use Rattle.std.proofs.Common.{Option, Some, None, IfSome, ℕ, zero, suc, ◌+◌, ◌-◌, ◌≤◌, arith, length-append, Bool, length, List, [], ◌∷◌, ◌++◌, ltb-true, ltb-false}
use Rattle.std.proofs.Math.Dec.{ltb}
use Rattle.reads.specs.Reads.{Reads}
use Rattle.reads.specs.ReadsLaws.{On, Same}
use Rattle.reads.proofs.ReadsLaws.{on_done, on_bind, on_cond, same_refl, same_after, same_cond}
use Rattle.records.specs.Records.{Record}
use Rattle.records.specs.RecordsClauses.{Each}
use Rattle.bit_matrix.specs.declared.Shape.{Shape}
use Rattle.bit_matrix.specs.ShapeClauses.{Limits}
use Rattle.detector_widths.specs.WidthsF32.{valid_widths_f32}
use Rattle.detector_candidates.specs.Candidates.{after, row_on, row_by, rows_by, concentric_circles_by, concentric_circles}
use Rattle.detector_candidate.specs.CandidateClauses.{Searchable}
use Rattle.detector_candidates.specs.CandidatesClauses.{row_from, rows_from}
use Rattle.detector_candidate.specs.CandidateLaws.{Candidate, Further, searchable_next, searchable_first, search_fit, same_search}

each_append : (P : Record → Type 0) (rs : List Record) (r : Record) → Each P rs → P r → Each P (rs ++ r ∷ [])
unfolding Each
each_append P [] r each p = (p, tt)
each_append P (x ∷ rs) r each p = (each.0, each_append P rs r each.1 p)

-- ---- the whole sweep

module _ (shape : Shape) (image : ℕ → Bool) (capacity : ℕ) where
  -- what the sweep gives
  abbrev SweptCandidates : List Record → Type 0
  SweptCandidates circles = Each (Candidate shape image) circles × (length circles ≤ capacity + 1)

  -- the candidates after a search
  now_fit : (candidate : Option Record) (circles : List Record) → IfSome candidate (Candidate shape image)
      → Each (Candidate shape image) circles → length circles ≤ capacity → SweptCandidates (after circles candidate)
  now_fit None circles _ each few = (each, omega arith)
  now_fit (Some candidate) circles fits each few =
      (each_append (Candidate shape image) circles candidate each fits, simp length-append (omega arith))

  -- where the row goes on
  next_fit : {row column : ℕ} (next : Option ℕ) (now : List Record) (rest : ℕ → Reads (List Record)) → Searchable shape row column
      → IfSome next (Further shape.width column) → SweptCandidates now
      → ((further : ℕ) → Searchable shape row further → On image SweptCandidates (rest further)) → On image SweptCandidates (row_on next now rest)
  next_fit None now rest at _ held goes = on_done image held
  next_fit (Some further) now rest at onward held goes = goes further (searchable_next at onward)

  row_fit : (n row column : ℕ) (circles : List Record) → Limits shape → Searchable shape row column
      → Each (Candidate shape image) circles → length circles ≤ capacity → On image SweptCandidates (row_from shape capacity n row column circles)
  unfolding row_by
  row_fit zero row column circles limits at each few = on_done image (each, omega arith)
  row_fit (suc n) row column circles limits at each few =
      on_bind image _ (search_fit shape image row column limits at) λ s fits.
      let now = after circles s.candidate in
      let held = now_fit s.candidate circles fits.fit each few in
      on_cond image (ltb capacity (length now))
      (λ _. on_done image held)
      (λ room. next_fit s.next now _ at fits.onward held
      (λ further there. row_fit n row further now limits there held.0 (ltb-false capacity (length now) room)))

  rows_fit : (n row : ℕ) (circles : List Record) → Limits shape → Each (Candidate shape image) circles → length circles ≤ capacity
      → On image SweptCandidates (rows_from shape capacity n row circles)
  unfolding rows_by
  rows_fit zero row circles limits each few = on_done image (each, omega arith)
  rows_fit (suc n) row circles limits each few =
      on_cond image (ltb row (shape.height - 6))
      (λ inside.
      let at : Searchable shape row 6 = searchable_first limits (omega (arith, ltb-true row (shape.height - 6) inside)) in
      on_bind image _ (row_fit shape.width row 6 circles limits at each few) λ now held.
      on_cond image (ltb capacity (length now))
      (λ _. on_done image held)
      (λ room. rows_fit n (row + 2) now limits held.0 (ltb-false capacity (length now) room)))
      (λ _. on_done image (each, omega arith))

-- Each is a candidate of the image, and there is at most one more than the capacity.
pub all_candidates : (shape : Shape) (capacity : ℕ) → Limits shape → (image : ℕ → Bool)
    → On image (λ (rs : List Record). Each (Candidate shape image) rs × (length rs ≤ capacity + 1)) (concentric_circles shape capacity)
unfolding concentric_circles_by Each
all_candidates shape capacity limits image = rows_fit shape image capacity shape.height 6 [] limits tt (omega arith)

-- ---- with the source's test of the widths

same_on : (next : Option ℕ) (now : List Record) (p q : ℕ → Reads (List Record)) → ((further : ℕ) → Same (p further) (q further))
    → Same (row_on next now p) (row_on next now q)
same_on None now p q same = same_refl
same_on (Some further) now p q same = same further

module _ (shape : Shape) (narrow : shape.width ≤ 2048) (low : shape.height ≤ 2048) where
  module _ (capacity : ℕ) where
    same_row : (n row column : ℕ) (circles : List Record)
        → Same (row_by valid_widths_f32 shape capacity n row column circles) (row_from shape capacity n row column circles)
    unfolding row_by
    same_row zero row column circles = same_refl
    same_row (suc n) row column circles =
        same_after _ _ (same_search shape narrow low row column) λ s.
        let now = after circles s.candidate in
        same_cond (ltb capacity (length now)) (λ _. same_refl) λ _. same_on s.next now _ _ (λ further. same_row n row further now)

    same_rows : (n row : ℕ) (circles : List Record)
        → Same (rows_by valid_widths_f32 shape capacity n row circles) (rows_from shape capacity n row circles)
    unfolding rows_by
    same_rows zero row circles = same_refl
    same_rows (suc n) row circles =
        same_cond (ltb row (shape.height - 6))
        (λ _.
        same_after _ _ (same_row shape.width row 6 circles) λ now.
        same_cond (ltb capacity (length now)) (λ _. same_refl) λ _. same_rows n (row + 2) now)
        (λ _. same_refl)

    -- The sweep with the source's f32 test has the candidates and the reads of the sweep with the whole-number one.
    pub same_sweep_f32 : Same (concentric_circles_by valid_widths_f32 shape capacity) (concentric_circles shape capacity)
    unfolding concentric_circles_by
    same_sweep_f32 = same_rows shape.height 6 []
