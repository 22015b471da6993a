-- How a step keeps its promise, and the laws of its tests and results. Assumes nothing.
use Rattle.std.proofs.Common.{ℕ, zero, suc, ◌+◌, ◌*◌, ◌≤◌, ◌<◌, arith, Bool, true, false, true≢false, ◌≡◌, refl, sym, ap, ap₂, subst, ◌∙◌, List, [], ◌∷◌, T, length, take, drop, get_or-drop, Float, to_bits}
use Rattle.std.specs.Float.Ieee.{of_bits}
use Rattle.std.specs.Float.{binary32, binary64}
use Rattle.bit_matrix.specs.declared.Shape.{Shape}
use Rattle.bit_matrix.specs.Shape.{shape_of}
use Rattle.bit_matrix.specs.ShapeClauses.{Image}
use Rattle.records.specs.Records.{capacity_of, rows}
use Rattle.records.specs.RecordsClauses.{Each}
use Rattle.rxing_result_point.specs.declared.Point.{Point}
use Rattle.rxing_result_point.specs.declared.PointU.{PointU}
use Rattle.detector_size.specs.declared.Size.{Size}
use Rattle.detector_boundary.specs.declared.Boundary.{Boundary}
use Rattle.detector_size.specs.Size.{guessed_size}
use Rattle.detector_size.specs.SizeClauses.{is_scale}
use Rattle.detector_boundary.specs.Boundary.{scaled_boundary}
use Rattle.detector_boundary.specs.BoundaryClauses.{Centered, Placed}
use Rattle.detector_boundary.specs.InImageLaws.{scaled_placed}
use Rattle.detector_points.specs.Orientation.{adjusted_point}
use Rattle.detector_points.specs.OrientationClauses.{is_cell}
use Rattle.detector_variances.specs.VariancesClauses.{Small}
use Rattle.detector_kept.specs.declared.Spread.{Spread}
use Rattle.detector_kept.specs.KeptClauses.{Candidates, KeptAndRanked}
use Rattle.detector_walks.specs.WalksClauses.{Lent}
use Rattle.detector_center.specs.Center.{find_center}
use Rattle.step_exports.specs.Steps.{Guarded, Decides, SmallTo, point_by_bits, spread_words, size_words, boundary_words, pixel_words, point_words}

module _ {fits answered refused : Type 0} where
  pub refuse : (fits → ⊥) → refused → Guarded fits answered refused
  refuse misfit r = record { met = λ f. absurd (misfit f); unmet = λ _. r }

  pub answer : fits → answered → Guarded fits answered refused
  answer f a = record { met = λ _. a; unmet = λ misfit. absurd (misfit f) }

-- ---- tests

module _ {P : Type 0} where
  pub decides_true : P → Decides true P
  decides_true p = record { sound = λ _. p; complete = λ _. refl }

  pub decides_false : (P → ⊥) → Decides false P
  decides_false misfit = record { sound = λ e. absurd (true≢false (sym e)); complete = λ p. absurd (misfit p) }

  -- what a test that is passed tells
  pub passed_test : {b : Bool} → Decides b P → b ≡ true → P
  passed_test d e = d.sound e

pub scale_of : {b : Bool} {p q : Float} → p ≡ q → Decides b (T (is_scale p)) → Decides b (T (is_scale q))
scale_of {b} e d = subst (λ (p : Float). Decides b (T (is_scale p))) e d

-- a test of the shape that is made of the width and height that are lent
module _ (w h : ℕ) {shape : Shape} (is : shape ≡ shape_of w h) {b : Bool} where
  pub centered_as : {center : PointU} → Decides b (Centered shape center) → Decides b (Centered (shape_of w h) center)
  centered_as d = rw is at d

  pub image_as : {words marks : List ℕ} → Decides b (Image shape words marks) → Decides b (Image (shape_of w h) words marks)
  image_as d = rw is at d

  pub lent_as : {words marks : List ℕ} {center : PointU} → Decides b (Lent shape words marks center)
      → Decides b (Lent (shape_of w h) words marks center)
  lent_as d = rw is at d

  pub centered_passed_as : {center : PointU} → Decides b (Centered shape center) → b ≡ true → Centered (shape_of w h) center
  centered_passed_as d = passed_test (centered_as d)

  pub image_passed_as : {words marks : List ℕ} → Decides b (Image shape words marks) → b ≡ true → Image (shape_of w h) words marks
  image_passed_as d = passed_test (image_as d)

  pub lent_passed_as : {words marks : List ℕ} {center : PointU} → Decides b (Lent shape words marks center) → b ≡ true
      → Lent (shape_of w h) words marks center
  lent_passed_as d = passed_test (lent_as d)

pub cell_passed : {b : Bool} (cell : PointU) → Decides b (T (is_cell cell)) → b ≡ true → T (is_cell cell)
cell_passed cell = passed_test

pub scale_passed_as : {b : Bool} {p : Float} (q : Float) → p ≡ q → Decides b (T (is_scale p)) → b ≡ true → T (is_scale q)
scale_passed_as q e d = passed_test (scale_of e d)

take_small : (n : ℕ) (words : List ℕ) → SmallTo n words → Small (take n words)
take_small zero words small k = omega arith
take_small (suc n) [] small k = omega arith
take_small (suc n) (x ∷ words) small zero = small.at 0 (omega arith)
take_small (suc n) (x ∷ words) small (suc k) = take_small n words (record { at = λ j h. small.at (suc j) (omega arith) }) k

each_small : (n : ℕ) (words : List ℕ) → SmallTo (40 * n) words → Each Small (rows n words)
unfolding Each rows
each_small zero words small = tt
each_small (suc n) words small = (
  take_small 40 words (record { at = λ k h. small.at k (omega arith) }),
  each_small n (drop 40 words) (record { at = λ k h. rw get_or-drop (small.at (40 + k) (omega arith)) }),
)

pub candidates : {found : ℕ} {records : List ℕ} → found ≤ capacity_of (length records) × SmallTo (40 * found) records → Candidates found records
candidates {found} {records} fits = record { few = omega (arith, fits.0); held = omega (arith, fits.0); small = each_small found records fits.1 }

pub kept_as : (found n : ℕ) {most kept : ℕ} {before after : List ℕ} → most ≡ capacity_of n → KeptAndRanked found most before kept after
    → KeptAndRanked found (capacity_of n) before kept after
kept_as found n same kept = rw same at kept

-- ---- results as words

pub spread_words_lem : {r s : Spread} → r ≡ s → r.x.dev ∷ r.y.dev ∷ r.x.mean ∷ r.y.mean ∷ [] ≡ spread_words s
unfolding spread_words
spread_words_lem e = ap spread_words e

pub size_words_lem : {r s : Size} → r ≡ s → r.width ∷ r.height ∷ [] ≡ size_words s
unfolding size_words
size_words_lem e = ap size_words e

pub boundary_words_lem : {r s : Boundary} → r ≡ s → r.left ∷ r.right ∷ r.top ∷ r.bottom ∷ [] ≡ boundary_words s
unfolding boundary_words
boundary_words_lem e = ap boundary_words e

pub pixel_words_lem : {r s : PointU} → r ≡ s → r.x ∷ r.y ∷ [] ≡ pixel_words s
unfolding pixel_words
pixel_words_lem e = ap pixel_words e

pub point_words_lem : {r s : Point} {a b : ℕ} → r ≡ s → a ≡ to_bits binary32 r.x → b ≡ to_bits binary32 r.y → a ∷ b ∷ [] ≡ point_words s
unfolding point_words
point_words_lem e ea eb = ap₂ (λ (m n : ℕ). m ∷ n ∷ []) ea eb ∙ ap point_words e

pub guessed_words : (radius : ℕ) {s : Size} {a b l : Float} (m n k : ℕ) → s ≡ guessed_size radius a b l
    → a ≡ of_bits binary64 m → b ≡ of_bits binary64 n → l ≡ of_bits binary64 k
    → s.width ∷ s.height ∷ [] ≡ size_words (guessed_size radius (of_bits binary64 m) (of_bits binary64 n) (of_bits binary64 k))
guessed_words radius m n k e ea eb el = size_words_lem (rw (ea, eb, el) at e)

pub same_point : {a b : Float} (m n : ℕ) → a ≡ of_bits binary32 m → b ≡ of_bits binary32 n → record { x = a; y = b } ≡ point_by_bits m n
same_point m n e f = ap₂ (λ (a b : Float). record { x = a; y = b }) e f

-- a boundary, by a shape and a scale that are equal to those lent
module _ (w h : ℕ) (center : PointU) (radius : ℕ) {shape : Shape} {p q : Float} {b : Boundary} (is : shape ≡ shape_of w h)
    (bounds : b ≡ scaled_boundary shape center radius p) where
  pub scaled_words : p ≡ q → b.left ∷ b.right ∷ b.top ∷ b.bottom ∷ [] ≡ boundary_words (scaled_boundary (shape_of w h) center radius q)
  scaled_words f = boundary_words_lem (rw (is, f) at bounds)

  pub adjusted_words : (cell : PointU) {r : PointU} → r ≡ adjusted_point b cell → p ≡ q
      → r.x ∷ r.y ∷ [] ≡ pixel_words (adjusted_point (scaled_boundary (shape_of w h) center radius q) cell)
  adjusted_words cell e f = pixel_words_lem (rw (bounds, is, f) at e)

pub placed_of : {shape : Shape} {center : PointU} {radius : ℕ} {b : Boundary} (p : Float) → b ≡ scaled_boundary shape center radius p
    → Centered shape center → 6 ≤ radius → radius < 2048 → T (is_scale p) → Placed b
placed_of p e centered least most t = subst Placed (sym e) (scaled_placed p centered least most t)

pub circle_words : {p q s p' q' s' r : Point} {a b : ℕ} → p ≡ p' → q ≡ q' → s ≡ s' → r ≡ find_center p q s
    → a ≡ to_bits binary32 r.x → b ≡ to_bits binary32 r.y → a ∷ b ∷ [] ≡ point_words (find_center p' q' s')
circle_words ep eq es e ea eb = point_words_lem (rw (ep, eq, es) at e) ea eb
