-- What holds of one search of a row, on the image at hand: where it does not end its row, the next one starts further to the right, and its candidate is fit
-- for the steps after the sweep; and that the search with the source's test of the widths is the same. Assumes nothing.
use Rattle.std.proofs.Common.{Option, Some, None, IfSome, Ok, Err, cond, eqb, ℕ, zero, suc, ◌+◌, ◌-◌, ◌/◌, ◌≤◌, ◌<◌, arith, length-append, ◌≡◌, refl, Bool, true, false, length, get_or, List, [], ◌∷◌, ◌++◌}
use Rattle.std.proofs.lemmas.Bool.{eqb-false}
use Rattle.std.proofs.Math.ListN.{replicate, length-replicate}
use Rattle.reads.specs.ReadsLaws.{On, Same}
use Rattle.reads.proofs.ReadsLaws.{on_done, on_always, on_bind, same_refl, same_after}
use Rattle.reads.proofs.BitsLaws.{get_or_zeros}
use Rattle.reads.specs.Total.{total}
use Rattle.records.specs.Fields as field
use Rattle.records.specs.Records.{Record}
use Rattle.bit_matrix.specs.declared.Shape.{Shape}
use Rattle.bit_matrix.specs.ShapeClauses.{Limits, Inside}
use Rattle.bit_matrix.specs.FlankedClauses.{Flanked}
use Rattle.detector_widths.specs.Widths.{valid_widths}
use Rattle.detector_widths.specs.WidthsF32.{valid_widths_f32}
use Rattle.detector_first_window.specs.FirstWindowLaws.{Closed}
use Rattle.detector_rows.specs.RowsLaws.{closed_on, same_rows_f32}
use Rattle.detector_window.specs.declared.Bullseye.{Bullseye}
use Rattle.detector_columns.specs.Columns.{Verified}
use Rattle.detector_columns.specs.ColumnsLaws.{Bounded, EitherBounded, verified_bounded, same_vertical_f32}
use Rattle.detector_candidate.specs.Candidate.{candidate_of, passed, failed, judged, judge_by, search_by}
use Rattle.detector_candidate.specs.CandidateClauses.{Searchable, search_from}
use Rattle.detector_candidate.specs.declared.Searched.{Searched}

-- ---- a search goes on to the right

-- a start further to the right
pub record Further (width column next : ℕ) : Type 0 where
  pub further : column < next
  pub inside : next < width - 6

abbrev pub Onward : ℕ → ℕ → Searched → Type 0
Onward width column s = IfSome s.next (Further width column)

module _ {shape : Shape} {image : ℕ → Bool} {row start : ℕ} {eye : Bullseye} (closed : Closed shape image row start eye) where
  -- where a search goes on after a window that failed: at or right of its start, and left of its limit
  quarter_after : start ≤ eye.center - eye.radius + eye.radius / 4
  quarter_after = omega (arith, closed.after_start, closed.half, closed.eleven_pixels)

  quarter_inside : eye.center - eye.radius + eye.radius / 4 < shape.width - 6
  quarter_inside = omega (arith, closed.before_limit)

  passed_onward : (vertical : List ℕ) → Onward shape.width start (passed row eye vertical)
  unfolding passed
  passed_onward vertical = record { further = omega (arith, closed.after_start, closed.eleven_pixels); inside = closed.before_limit }

  failed_onward : Onward shape.width start (failed start eye)
  unfolding failed
  failed_onward = go (eqb next start) refl
    where
      next : ℕ
      next = eye.center - eye.radius + eye.radius / 4

      go : (t : Bool) → eqb next start ≡ t → IfSome (cond t None (Some next)) (Further shape.width start)
      go true e = tt
      go false e =
          let other : next ≡ start → ⊥ = eqb-false next start e in
          record { further = omega (arith, quarter_after, other); inside = quarter_inside }

-- ---- each candidate

-- a candidate of an image of that shape: its centre inside, between black pixels of its row, and all of its words small
pub record Candidate (shape : Shape) (image : ℕ → Bool) (r : Record) : Type 0 where
  pub whole : length r ≡ 40
  pub inside : Inside shape (get_or r field.center_x 0) (get_or r field.center_y 0)
  pub flanked : Flanked shape image (get_or r field.center_x 0) (get_or r field.center_y 0)
  pub least : 6 ≤ get_or r field.radius 0
  pub most : get_or r field.radius 0 ≤ 1018
  pub small : (k : ℕ) → get_or r k 0 < 65536

below_append : (most : ℕ) (xs ys : List ℕ) → ((k : ℕ) → get_or xs k 0 < most) → ((k : ℕ) → get_or ys k 0 < most) → (k : ℕ) → get_or (xs ++ ys) k 0 < most
below_append most [] ys low high k = high k
below_append most (x ∷ xs) ys low high zero = low 0
below_append most (x ∷ xs) ys low high (suc k) = below_append most xs ys (λ j. low (suc j)) high k

below_cons : (most x : ℕ) (xs : List ℕ) → x < most → ((k : ℕ) → get_or xs k 0 < most) → (k : ℕ) → get_or (x ∷ xs) k 0 < most
below_cons most x xs first rest zero = first
below_cons most x xs first rest (suc k) = rest k

-- the centre of a window lies between its first and its last pixel
closed_flanked : {shape : Shape} {image : ℕ → Bool} {row start : ℕ} {eye : Bullseye} → Closed shape image row start eye → Flanked shape image eye.center row
closed_flanked {eye = eye} closed = record {
  left = eye.center + eye.radius - total eye.buckets;
  left_before = omega (arith, closed.after_start, closed.half, closed.eleven_pixels);
  left_black = closed.first_black;
  right = eye.center + eye.radius - 1;
  right_after = omega (arith, closed.half, closed.eleven_pixels);
  right_inside = omega (arith, closed.before_limit);
  right_black = closed.last_black;
}

module _ {shape : Shape} {image : ℕ → Bool} {row column : ℕ} (limits : Limits shape) (at : Searchable shape row column) {eye : Bullseye}
    (closed : Closed shape image row column eye) {vertical : List ℕ} (bounded : Bounded shape.height vertical) where
  candidate_fit : Candidate shape image (candidate_of row eye vertical)
  unfolding candidate_of
  candidate_fit = record {
    whole = simp (length-append, length-replicate, closed.eleven_runs, bounded.eleven) refl;
    inside = record { column = omega (arith, closed.before_limit); row = at.inside.row };
    flanked = closed_flanked closed;
    least = omega (arith, closed.half, closed.eleven_pixels);
    most = omega (arith, limits.width_most, at.left, closed.after_start, closed.before_limit, closed.half);
    small =
        let filled : List ℕ = replicate 15 0 in
        let runs = eye.buckets ++ vertical ++ filled in
        below_cons 65536 eye.center (row ∷ eye.radius ∷ runs) (omega (arith, limits.width_most, closed.before_limit))
        (below_cons 65536 row (eye.radius ∷ runs) (omega (arith, limits.height_most, at.inside.row))
        (below_cons 65536 eye.radius runs (omega (arith, limits.width_most, closed.before_limit))
        (below_append 65536 (eye.buckets ++ vertical) filled
        (below_append 65536 eye.buckets vertical (λ k. omega (arith, limits.width_most, closed.narrow k))
        (λ k. omega (arith, limits.height_most, bounded.each.run k)))
        (λ k. rw (get_or_zeros 15 k) (omega arith)))));
  }

-- where the next search of a row starts
pub searchable_next : {shape : Shape} {row column next : ℕ} → Searchable shape row column → Further shape.width column next → Searchable shape row next
searchable_next at onward = record {
  inside = record { column = omega (arith, onward.inside); row = at.inside.row };
  left = omega (arith, at.left, onward.further);
  right = onward.inside;
}

-- where the first search of a row starts
pub searchable_first : {shape : Shape} {row : ℕ} → Limits shape → row < shape.height → Searchable shape row 6
searchable_first limits above = record {
  inside = record { column = omega (arith, limits.width_least); row = above };
  left = omega arith;
  right = omega (arith, limits.width_least);
}

-- a search's candidate, if it has one
pub record FitSearch (shape : Shape) (image : ℕ → Bool) (column : ℕ) (s : Searched) : Type 0 where
  pub onward : Onward shape.width column s
  pub fit : IfSome s.candidate (Candidate shape image)

pub search_fit : (shape : Shape) (image : ℕ → Bool) (row column : ℕ) → Limits shape → Searchable shape row column
    → On image (FitSearch shape image column) (search_from shape row column)
unfolding search_by passed failed
search_fit shape image row column limits at = on_bind image _ (closed_on shape row column image) judge_fit
  where
    judged_fit : {eye : Bullseye} → Closed shape image row column eye
        → (tried : Verified) → EitherBounded shape.height tried → FitSearch shape image column (judged row column eye tried)
    judged_fit closed (Ok vertical) bounded = record { onward = passed_onward closed vertical; fit = candidate_fit limits at closed bounded }
    judged_fit closed (Err vertical) _ = record { onward = failed_onward closed; fit = tt }

    judge_fit : (found : Option Bullseye) → IfSome found (Closed shape image row column)
        → On image (FitSearch shape image column) (judge_by valid_widths shape row column found)
    judge_fit None _ = on_done image (record { onward = tt; fit = tt })
    judge_fit (Some eye) closed =
        on_bind image _ (on_always image (verified_bounded shape row eye.center)) λ tried bounded.
        on_done image (judged_fit closed tried bounded)

-- ---- with the source's test of the widths

pub same_search : (shape : Shape) → shape.width ≤ 2048 → shape.height ≤ 2048 → (row column : ℕ)
    → Same (search_by valid_widths_f32 shape row column) (search_from shape row column)
unfolding search_by
same_search shape narrow low row column = same_after _ _ (same_rows_f32 shape row column (omega arith)) same_judge
  where
    same_judge : (found : Option Bullseye) → Same (judge_by valid_widths_f32 shape row column found) (judge_by valid_widths shape row column found)
    same_judge None = same_refl
    same_judge (Some eye) = same_after _ _ (same_vertical_f32 shape row low eye.center) λ tried. same_refl
