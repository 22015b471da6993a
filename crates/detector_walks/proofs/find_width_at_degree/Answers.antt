-- `detector_walks::find_width_at_degree` meets its contract: the walks' runs, one after the other.
use Rattle.std.proofs.Common.{ℕ, ◌+◌, ◌^◌, ◌≤◌, ◌<◌, arith, true, false, ◌≡◌, rules}
use Rattle.std.proofs.Math.Path.{subst⁻¹}
use Rattle.reads.proofs.RunsLaws.{ran_bind, ran_is, always_ran}
use Rattle.bit_matrix.specs.declared.Shape.{Shape}
use Rattle.bit_matrix.specs.declared.BitMatrix.{BitMatrix}
use Rattle.bit_matrix.specs.ShapeClauses.{Inside}
use Rattle.bit_matrix.specs.ImageClauses.{RanOn}
use Rattle.bit_matrix.proofs.ImageLaws.{kept_on, onto}
use Rattle.sines.specs.declared.Angle.{Angle}
use Rattle.sines.specs.Sines.{angle_of}
use Rattle.sines.specs.Laws.{scaled}
use Rattle.rxing_result_point.specs.declared.PointU.{PointU}
use Rattle.detector_walks.specs.Walks.{walk, width_of, find_width_at_degree}
use Rattle.detector_walks.specs.WalksClauses.{rest, steps_remaining}
use Rattle.detector_walks.specs.declared.Width.{Width}
use Rattle.detector_walks.specs.StepsLaws.{steps_right, steps_some}
use Rattle.detector_walks.specs.WalksLaws.{EndsAt, left_ends, right_ends}
use Rattle.detector_walks.proofs.Joins.{still_inside}
use Rattle.detector_walks.proofs.find_width_at_degree.Goals as goal

first_near : (shape : Shape) (center : PointU) (angle : Angle) → center.x + 1 ≤ center.x + steps_right shape angle
first_near shape center angle = omega (arith, steps_some shape (scaled angle.sin))

-- the walks from their first columns on
module _ (center : PointU) (angle : Angle) {before after : BitMatrix} where
  walked_left : {left : ℕ} → RanOn (rest true before.shape center angle center.x) before left after → RanOn (walk before.shape center angle true) before left after
  unfolding walk
  walked_left run = run

  walked_right : {right : ℕ} → RanOn (rest false before.shape center angle (center.x + 1)) before right after
      → RanOn (walk before.shape center angle false) before right after
  unfolding walk
  walked_right run =
      let all : steps_remaining center (center.x + 1) ≡ 2 ^ 20 = omega arith in
      rw all at run

  -- they end on their sides of the centre
  left_side : {left : ℕ} → RanOn (rest true before.shape center angle center.x) before left after → left ≤ center.x
  left_side run = always_ran (left_ends before.shape center angle) (walked_left run).ran

  module _ (inside : Inside before.shape center.x center.y) (degree : ℕ) (e : angle ≡ angle_of degree) {right : ℕ}
      (run : RanOn (rest false before.shape center angle (center.x + 1)) before right after) where
    abbrev shape : Shape
    shape = before.shape

    ends : EndsAt shape center (angle_of degree) before.words.now (center.x + 1) (steps_right shape (angle_of degree)) right
    ends =
        subst⁻¹ (EndsAt shape center (angle_of degree) before.words.now (center.x + 1) (steps_right shape (angle_of degree)))
        (rw e at (walked_right run).ran.result)
        (right_ends before.is_image.limits center inside degree before.words.now)

    right_side : center.x < right
    right_side = omega (arith, ends.least)

ended : {i₀ i₁ i₂ : BitMatrix} (center : PointU) (degree : ℕ) {angle : Angle} {left right : ℕ} {r : Width} → angle ≡ angle_of degree
    → RanOn (rest true i₀.shape center angle center.x) i₀ left i₁ → RanOn (rest false i₁.shape center angle (center.x + 1)) i₁ right i₂
    → r ≡ width_of center angle left right → RanOn (find_width_at_degree i₀.shape center degree) i₀ r i₂
unfolding find_width_at_degree
ended center degree {angle} e first second is =
    let right = onto (λ (shape : Shape). walk shape center angle false) first.kept (walked_right center angle second) in
    record {
      kept = kept_on first.kept second.kept;
      ran = rw (← e) (ran_bind _ (walked_left center angle first).ran (ran_bind _ right (ran_is is)));
    }

pub walk-right-requires : goal.walk-right-requires
walk-right-requires c = search (still_inside, first_near, rules)

pub width_of-requires : goal.width_of-requires
width_of-requires c = (search left_side, search (still_inside, right_side))

pub returns : goal.returns
returns c = search ended
