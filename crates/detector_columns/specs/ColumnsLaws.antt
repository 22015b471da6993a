-- What holds of the vertical check on every image: no run is longer than the rows, so no sum overflows, and the check with the source's test of the
-- widths is the same. Assumes nothing.
use Rattle.std.proofs.Common.{ℕ, zero, suc, ◌+◌, ◌-◌, ◌*◌, ◌≤◌, ◌<◌, arith, lt-ltb, le-ltb, get_or-set_same, get_or-set_other, ◌≡◌, refl, Bool, true, false, cond, List, [], ◌∷◌, ltb, length, set, replicate, Ok, Err, MatchResult}
use Rattle.std.proofs.Math.Decide.{dec_lt, ℕ_discrete}
use Rattle.std.proofs.Math.Seq.{set_out}
use Rattle.reads.specs.Reads.{Reads}
use Rattle.reads.specs.ReadsLaws.{Always, Same}
use Rattle.reads.proofs.ReadsLaws.{always_done, always_bind, always_after, always_cond, same_refl, same_bind, same_after}
use Rattle.reads.proofs.BitsLaws.{get_or_zeros}
use Rattle.bit_matrix.specs.declared.Shape.{Shape}
use Rattle.bit_matrix.specs.Pixels.{pixel}
use Rattle.detector_widths.specs.Buckets.{bump}
use Rattle.detector_widths.specs.Widths.{at, even_total, odd_total, valid_widths}
use Rattle.detector_widths.specs.WidthsF32.{valid_widths_f32}
use Rattle.detector_widths.specs.SameWidthsLaws.{same_widths}
use Rattle.detector_columns.specs.Columns.{
  pointer_after,
  rows_left,
  vector_from,
  column_vector,
  potential_bullseye_array,
  potential_bullseye,
  Verified,
  or_else,
  try_column_by,
  try_columns_by,
  verify_bullseye_vertical_by,
}
use Rattle.detector_columns.specs.ColumnsClauses.{try_column, verify_bullseye_vertical}
use Rattle.detector_columns.specs.declared.Direction.{Direction}
use Rattle.detector_columns.specs.declared.Direction.TheVariants.{Up, Down}

-- no run is longer than `most`
pub record AtMost (most : ℕ) (runs : List ℕ) : Type 0 where
  pub run : (k : ℕ) → at runs k ≤ most

-- ---- six runs

-- a run grows by one at most
pub bump_le : (buckets : List ℕ) (pointer k : ℕ) → at (bump buckets pointer) k ≤ at buckets k + 1
unfolding bump
bump_le buckets pointer k = go (dec_lt pointer (length buckets)) (ℕ_discrete k pointer)
  where
    go : Dec (pointer < length buckets) → Dec (k ≡ pointer) → at (set buckets pointer (at buckets pointer + 1)) k ≤ at buckets k + 1
    go (yes h) (yes e) = rw e (rw (get_or-set_same buckets pointer (at buckets pointer + 1) 0 h) (omega arith))
    go (no h) (yes e) = rw (set_out buckets pointer (at buckets pointer + 1) (omega arith)) (omega arith)
    go h (no other) = rw (get_or-set_other buckets pointer k (at buckets pointer + 1) 0 other) (omega arith)

pub rows_le : (direction : Direction) (height row : ℕ) → rows_left direction height row ≤ height
unfolding rows_left
rows_le Up height row = go (ltb 0 row)
  where
    go : (b : Bool) → cond b (height - row) 0 ≤ height
    go true = omega arith
    go false = omega arith
rows_le Down height row = go (dec_lt row height)
  where
    go : Dec (row < height) → cond (ltb row height) row 0 ≤ height
    go (yes h) = rw (lt-ltb row height h) (omega arith)
    go (no h) = rw (le-ltb row height (omega arith)) (omega arith)

module _ (shape : Shape) (column : ℕ) (direction : Direction) (most : ℕ) where
  vector_from_le : (n row : ℕ) (last : Bool) (pointer : ℕ) (buckets : List ℕ)
      → ((k : ℕ) → at buckets k + n ≤ most) → Always (AtMost most) (vector_from shape column direction n row last pointer buckets)
  unfolding vector_from
  vector_from_le zero row last pointer buckets room = always_done (record { run = λ k. omega (arith, room k) })
  vector_from_le (suc n) row last pointer buckets room =
      always_after (pixel shape column row) _ λ black.
      always_cond (ltb 5 (pointer_after pointer black last))
      (λ _. always_done (record { run = λ k. omega (arith, room k) }))
      (λ _. vector_from_le n _ black _ _ λ k. omega (arith, room k, bump_le buckets (pointer_after pointer black last) k))

-- no run is longer than the rows
pub column_vector_le : (shape : Shape) (column start_row : ℕ) (direction : Direction)
    → Always (AtMost shape.height) (column_vector shape column start_row direction)
unfolding column_vector
column_vector_le shape column start_row direction =
    vector_from_le shape column direction shape.height (rows_left direction shape.height start_row) start_row false 0 (replicate 6 0)
    λ k. rw (get_or_zeros 6 k) (omega (arith, rows_le direction shape.height start_row))

-- ---- eleven runs

-- what holds of the runs of a column
pub record Bounded (height : ℕ) (buckets : List ℕ) : Type 0 where
  pub eleven : length buckets ≡ 11
  pub each : AtMost (2 * height) buckets
  pub evens : even_total buckets ≤ 6 * height
  pub odds : odd_total buckets ≤ 4 * height

cons_most : {run most : ℕ} {runs : List ℕ} → run ≤ most → AtMost most runs → AtMost most (run ∷ runs)
cons_most {run} {most} {runs} first rest = record { run = go }
  where
    go : (k : ℕ) → at (run ∷ runs) k ≤ most
    go zero = first
    go (suc k) = rest.run k

nil_most : {most : ℕ} → AtMost most []
nil_most = record { run = λ k. omega arith }

array_bounded : {height : ℕ} {v w : List ℕ} → AtMost height v → AtMost height w → Bounded height (potential_bullseye_array v w)
array_bounded {height} {v} {w} down up =
    let below : (k : ℕ) → at v k ≤ 2 * height = λ k. omega (arith, down.run k) in
    let above : (k : ℕ) → at w k ≤ 2 * height = λ k. omega (arith, up.run k) in
    record {
      eleven = refl;
      each =
          cons_most (below 5) (cons_most (below 4) (cons_most (below 3) (cons_most (below 2) (cons_most (below 1)
          (cons_most (omega (arith, down.run 0, up.run 0))
          (cons_most (above 1) (cons_most (above 2) (cons_most (above 3) (cons_most (above 4) (cons_most (above 5) nil_most))))))))));
      evens = omega (arith, down.run 5, down.run 3, down.run 1, up.run 1, up.run 3, up.run 5);
      odds = omega (arith, down.run 4, down.run 2, up.run 2, up.run 4);
    }

-- the test of a column's runs is the source's in f32
bounded_widths : {height : ℕ} {buckets : List ℕ} → height ≤ 2048 → Bounded height buckets → valid_widths_f32 buckets ≡ valid_widths buckets
bounded_widths {buckets = buckets} low bounded = same_widths buckets (omega (arith, bounded.evens)) (omega (arith, bounded.odds))

-- of the runs of a column that passes, and of one that does not
abbrev pub EitherBounded : ℕ → Verified → Type 0
EitherBounded height tried = MatchResult tried (Bounded height) (Bounded height)

module _ (shape : Shape) (row : ℕ) where
  pub potential_bounded : (column : ℕ) → Always (Bounded shape.height) (potential_bullseye shape row column)
  unfolding potential_bullseye
  potential_bounded column =
      always_bind _ (column_vector_le shape column row Up) λ up up_le.
      always_bind _ (column_vector_le shape column row Down) λ down down_le.
      always_done (array_bounded down_le up_le)

  either_bounded : {buckets : List ℕ} → Bounded shape.height buckets → (pass : Bool) → EitherBounded shape.height (cond pass (Ok buckets) (Err buckets))
  either_bounded bounded true = bounded
  either_bounded bounded false = bounded

  try_bounded : (column : ℕ) → Always (EitherBounded shape.height) (try_column shape row column)
  unfolding try_column_by
  try_bounded column = always_bind _ (potential_bounded column) λ buckets bounded. always_done (either_bounded bounded (valid_widths buckets))

  tries_bounded : (columns last : List ℕ) → Bounded shape.height last
      → Always (EitherBounded shape.height) (try_columns_by valid_widths shape row last columns)
  unfolding try_columns_by
  tries_bounded [] last bounded = always_done bounded
  tries_bounded (column ∷ columns) last _ = always_bind _ (try_bounded column) (next (tries_bounded columns))
    where
      next : {later : List ℕ → Reads Verified} → ((runs : List ℕ) → Bounded shape.height runs → Always (EitherBounded shape.height) (later runs))
          → (tried : Verified) → EitherBounded shape.height tried → Always (EitherBounded shape.height) (or_else tried later)
      next _ (Ok runs) bounded = always_done bounded
      next onward (Err runs) bounded = onward runs bounded

  zeros_bounded : Bounded shape.height (replicate 11 0)
  zeros_bounded = record { eleven = refl; each = record { run = λ k. rw (get_or_zeros 11 k) (omega arith) }; evens = omega arith; odds = omega arith }

  -- of the column that passes, and where none passes, of the last one tried
  pub verified_bounded : (column : ℕ) → Always (EitherBounded shape.height) (verify_bullseye_vertical shape row column)
  verified_bounded column = tries_bounded _ _ zeros_bounded

  -- ---- with the source's test of the widths

  same_try : shape.height ≤ 2048 → (column : ℕ) → Same (try_column_by valid_widths_f32 shape row column) (try_column shape row column)
  unfolding try_column_by
  same_try low column =
      same_bind _ _ same_refl (potential_bounded column) λ buckets bounded. rw (bounded_widths low bounded) same_refl

  same_tries : shape.height ≤ 2048 → (columns last : List ℕ)
      → Same (try_columns_by valid_widths_f32 shape row last columns) (try_columns_by valid_widths shape row last columns)
  unfolding try_columns_by
  same_tries low [] last = same_refl
  same_tries low (column ∷ columns) last = same_after _ _ (same_try low column) (next (same_tries low columns))
    where
      next : {later later' : List ℕ → Reads Verified} → ((runs : List ℕ) → Same (later runs) (later' runs))
          → (tried : Verified) → Same (or_else tried later) (or_else tried later')
      next _ (Ok runs) = same_refl
      next onward (Err runs) = onward runs

  -- The check with the source's f32 test has the results and the reads of the check with the whole-number one.
  pub same_vertical_f32 : shape.height ≤ 2048 → (column : ℕ)
      → Same (verify_bullseye_vertical_by valid_widths_f32 shape row column) (verify_bullseye_vertical shape row column)
  same_vertical_f32 low column = same_tries low _ _
