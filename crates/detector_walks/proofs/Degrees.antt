-- What is known at the angle of some degree, whichever it is. Assumes nothing.
use Rattle.std.proofs.Common.{ℕ, ◌+◌, ◌^◌, ◌≤◌, Bool, false, List, ◌≡◌, Float}
use Rattle.std.specs.Float.Ieee.Exact.{HasValue}
use Rattle.std.specs.Float.{nan, inf, fin}
use Rattle.std.proofs.Math.Logic.{∥∥₁_elim}
use Rattle.std.proofs.Math.Bool.{Bool-set}
use Rattle.std.proofs.Math.Nat.{ℕ_set}
use Rattle.std.specs.Coded.{le_prop}
use Rattle.bit_matrix.specs.declared.Shape.{Shape}
use Rattle.bit_matrix.specs.ShapeClauses.{Limits, Inside}
use Rattle.sines.specs.declared.Angle.{Angle}
use Rattle.rxing_result_point.specs.declared.PointU.{PointU}
use Rattle.detector_walks.specs.WalksClauses.{OfDegree}
use Rattle.detector_walks.specs.StepsLaws.{Rules, rules, steps_right, steps_few}
use Rattle.detector_walks.specs.WalksLaws.{white_at, walk_stops}

HasValue-prop : (x : Float) (s : Bool) (a c : ℕ) → IsProp (HasValue x s a c)
HasValue-prop nan s a c = hlevel
HasValue-prop (inf t) s a c = hlevel
HasValue-prop (fin t m e) s a c = hlevel (Bool-set, ℕ_set)

module _ {angle : Angle} (of : ∥ OfDegree angle ∥₁) where
  pub rules_of : Rules angle
  rules_of = ∥∥₁_elim of (hlevel (HasValue-prop, le_prop, ℕ_set)) (λ is. rules is)

  module _ {shape : Shape} (limits : Limits shape) where
    pub steps_few_of : steps_right shape angle + 2 ^ 10 ≤ 2 ^ 20
    steps_few_of = ∥∥₁_elim of le_prop (λ is. steps_few is limits)

    pub walk_stops_of : (center : PointU) → Inside shape center.x center.y → (words : List ℕ)
        → white_at shape center angle words (center.x + steps_right shape angle) ≡ false
    walk_stops_of center inside words = ∥∥₁_elim of (Bool-set _ _) (λ is. walk_stops limits center inside is words)
