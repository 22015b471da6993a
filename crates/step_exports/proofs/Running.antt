-- Laws of the steps that read an image: their runs, with the shape that was made of the width and height that are lent, and the result as words.
-- Assumes nothing.
use Rattle.std.proofs.Common.{ℕ, ◌≤◌, arith, false, ◌≡◌, refl, List, [], ◌∷◌, to_bits, length}
use Rattle.std.specs.Prelude.{Bool, Option}
use Rattle.std.specs.Float.{binary32}
use Rattle.reads.specs.Reads.{Reads}
use Rattle.reads.specs.RunsClauses.{Ran}
use Rattle.reads.proofs.RunsLaws.{ran_bind, ran_is}
use Rattle.bit_matrix.specs.declared.Shape.{Shape}
use Rattle.bit_matrix.specs.Shape.{shape_of}
use Rattle.bit_matrix.specs.declared.BitMatrix.{BitMatrix}
use Rattle.bit_matrix.specs.ImageClauses.{RanOn}
use Rattle.bit_matrix_area.specs.Area.{try_get_area}
use Rattle.rxing_result_point.specs.declared.PointU.{PointU}
use Rattle.records.specs.Records.{capacity_of}
use Rattle.detector_candidates.specs.Candidates.{concentric_circles}
use Rattle.detector_candidates.specs.CandidatesClauses.{Room, Listed}
use Rattle.detector_walks.specs.declared.Width.{Width}
use Rattle.detector_walks.specs.Walks.{find_width_at_degree}
use Rattle.detector_center.specs.Center.{corrected}
use Rattle.detector_circle.specs.declared.Circle.{Circle}
use Rattle.detector_box.specs.Boxes.{symbol_at}
use Rattle.detector_symbol.specs.Symbols.{with_symbol}
use Rattle.step_exports.specs.Row.{black_from}
use Rattle.step_exports.specs.Steps.{through, sample_number, pixel_words, width_words}
use Rattle.step_exports.proofs.Guarding.{pixel_words_lem}

-- a buffer with room for a capacity that is at most its own
pub room : {capacity most : ℕ} {records : List ℕ} → most ≡ capacity_of (length records) → capacity ≤ most → Room capacity records 0
room same fits = record { few = omega arith; most = omega arith; held = omega arith }

pub ran_through : {A B : Type 0} (f : A → B) (p : Reads A) {words m₀ m₁ : List ℕ} {a : A} {r : B} → Ran p words m₀ a m₁ → r ≡ f a
    → Ran (through f p) words m₀ r m₁
unfolding through
ran_through f p ran e = ran_bind _ ran (ran_is e)

pub on_through : {A B : Type 0} (f : A → B) (p : Reads A) {before after : BitMatrix} {a : A} {r : B} → RanOn p before a after → r ≡ f a
    → RanOn (through f p) before r after
on_through f p run e = record { kept = run.kept; ran = ran_through f p run.ran e }

-- m' is what a step leaves of the marks, which the image had at the end
module _ (w h : ℕ) {shape : Shape} (is : shape ≡ shape_of w h) {words m₀ m₁ m' : List ℕ} where
  pub counted : (row columns : ℕ) {r : ℕ} → Ran (black_from shape row columns 0 0) words m₀ r m₁ → m' ≡ m₁
      → Ran (black_from (shape_of w h) row columns 0 0) words m₀ r m'
  counted row columns ran left = rw left (rw is at ran)

  pub listed : (capacity : ℕ) {records₀ records₁ : List ℕ} {r : ℕ} → Listed (concentric_circles shape capacity) capacity words m₀ records₀ r m₁ records₁
      → m' ≡ m₁ → Listed (concentric_circles (shape_of w h) capacity) capacity words m₀ records₀ r m' records₁
  listed capacity found left = rw left (rw is at found)

  pub area_ran : (x y : ℕ) {a : Option Bool} {r : ℕ} → Ran (try_get_area shape x y) words m₀ a m₁ → m' ≡ m₁ → r ≡ sample_number a
      → Ran (through sample_number (try_get_area (shape_of w h) x y)) words m₀ r m'
  area_ran x y ran left e = rw left (ran_through sample_number _ (rw is at ran) e)

  pub corrected_ran : (center : PointU) {a : PointU} → Ran (corrected shape center) words m₀ a m₁ → m' ≡ m₁
      → Ran (through pixel_words (corrected (shape_of w h) center)) words m₀ (a.x ∷ a.y ∷ []) m'
  corrected_ran center ran left = rw left (ran_through pixel_words _ (rw is at ran) (pixel_words_lem refl))

  pub walked_ran : (center : PointU) (degree : ℕ) {e : Width} {a b c d : ℕ}
      → Ran (find_width_at_degree shape center degree) words m₀ e m₁ → m' ≡ m₁
      → a ≡ to_bits binary32 e.left.x → b ≡ to_bits binary32 e.left.y → c ≡ to_bits binary32 e.right.x → d ≡ to_bits binary32 e.right.y
      → Ran (through width_words (find_width_at_degree (shape_of w h) center degree)) words m₀ (e.length ∷ a ∷ b ∷ c ∷ d ∷ []) m'
  unfolding width_words
  walked_ran center degree ran left ea eb ec ed = rw left (ran_through width_words _ (rw is at ran) (rw (ea, eb, ec, ed) refl))

  pub boxed_ran : (fields : List ℕ) (circle : Circle) {r : List ℕ} → Ran (through (with_symbol fields) (symbol_at false shape circle)) words m₀ r m₁
      → m' ≡ m₁ → Ran (through (with_symbol fields) (symbol_at false (shape_of w h) circle)) words m₀ r m'
  boxed_ran fields circle ran left = rw left (rw is at ran)
