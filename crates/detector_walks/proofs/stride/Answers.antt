-- `detector_walks::stride` meets its contract: the numbers that are listed for a column are those of its point.
use Rattle.std.specs.Prelude.{ℕ, ◌+◌, ◌^◌, ◌≤◌, ◌<◌, Bool, true, false, List, ◌≡◌}
use Rattle.std.proofs.Common.{ap₂, ◌∙◌, arith, rules}
use Rattle.bit_matrix.specs.declared.BitMatrix.{BitMatrix}
use Rattle.bit_matrix.specs.ShapeClauses.{Inside}
use Rattle.sines.specs.declared.Angle.{Angle}
use Rattle.rxing_result_point.specs.declared.PointU.{PointU}
use Rattle.detector_walks.specs.Walks.{walk_point, white_pixel, white_point}
use Rattle.detector_walks.specs.WalksClauses.{OfDegree, Along, column}
use Rattle.detector_walks.proofs.Looks.{left, high, sine_size, cosine_size, looks_at}
use Rattle.detector_walks.proofs.Joins.{going_on, going_stop, going_over}
use Rattle.detector_walks.proofs.stride.Invariants.{listed}
use Rattle.detector_walks.proofs.stride.Goals as goal

few_step : (back : Bool) (x i : ℕ) → x < 2 ^ 20 + 2 ^ 12 → i < 32 → column back x i ≤ 2 ^ 21
few_step true x i few h = omega arith
few_step false x i few h = omega arith

module _ (image : BitMatrix) {center : PointU} {angle : Angle} {back : Bool} {x : ℕ} {columns rows : List ℕ} (inside : Inside image.shape center.x center.y)
    (of : ∥ OfDegree angle ∥₁) (few : x < 2 ^ 20 + 2 ^ 12) (across : Along back angle.cos center.x center.x x 32 columns)
    (down : Along back angle.sin center.x center.y x 32 rows) where
  same_test : (i : ℕ) → i < 32 → listed columns rows image.shape i ≡ white_point image.shape (walk_point center angle (column back x i))
  same_test i h =
      ap₂ (white_pixel image.shape) (across.at i h) (down.at i h) ∙ looks_at image.is_image.limits inside of (few_step back x i few h)

pub along-columns-requires : goal.along-columns-requires
along-columns-requires g c = search (cosine_size, left, rules)

pub along-rows-requires : goal.along-rows-requires
along-rows-requires g c = search (sine_size, left, high, rules)

pub loop-i-preserved : goal.loop-i-preserved
loop-i-preserved g c = going_on _ _ _ _ _ c.loop-i.invariant c.loop-i-test.true c.is_white.ensures c.if-not-is_white.false

pub returns-then-not-is_white-clause-taken : goal.returns-then-not-is_white-clause-taken
returns-then-not-is_white-clause-taken g c =
    going_stop _ _ _ _ _ c.loop-i.invariant c.loop-i-test.true c.is_white.ensures
    (same_test c.args.image.now c.requires.0 c.args.ray.of_degree c.requires.2 c.along-columns.ensures c.along-rows.ensures)
    c.if-not-is_white.true

pub returns-clause-taken : goal.returns-clause-taken
returns-clause-taken g c =
    going_over _ _ _ _ _ c.loop-i.invariant
    (same_test c.args.image.now c.requires.0 c.args.ray.of_degree c.requires.2 c.along-columns.ensures c.along-rows.ensures)
    (omega (arith, c.loop-i-test.false))
