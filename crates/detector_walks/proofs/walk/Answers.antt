-- `detector_walks::walk` meets its contract: the first steps, and the strides that follow unless they have ended the walk.
use Rattle.std.proofs.Common.{ℕ, ◌+◌, ◌^◌, ◌≤◌, ◌<◌, Bool, true, ◌≡◌, arith, rules}
use Rattle.bit_matrix.specs.declared.BitMatrix.{BitMatrix}
use Rattle.bit_matrix.specs.ShapeClauses.{Inside}
use Rattle.bit_matrix.specs.ImageClauses.{Kept, RanOn}
use Rattle.sines.specs.declared.Angle.{Angle}
use Rattle.rxing_result_point.specs.declared.PointU.{PointU}
use Rattle.detector_walks.specs.WalksClauses.{OfDegree, column, Taken, rest}
use Rattle.detector_walks.specs.StepsLaws.{steps_right}
use Rattle.detector_walks.proofs.Joins.{still_inside}
use Rattle.detector_walks.proofs.Walking.{Walking, room_of, walk_begins, walk_ends, walk_enough, walk_fits, walk_stops, walk_onward}
use Rattle.detector_walks.proofs.walk.Goals as goal

module _ (image : BitMatrix) {center : PointU} {angle : Angle} (inside : Inside image.shape center.x center.y) (of : ∥ OfDegree angle ∥₁) where
  begun : (left : Bool) {first : ℕ} → first ≤ center.x + steps_right image.shape angle → Walking image center angle left first image first
  begun left h = walk_begins image center angle inside of left _ h

  low : {first : ℕ} → first ≤ center.x + steps_right image.shape angle → first < 2 ^ 20 + 2 ^ 12
  low h = (begun true h).low

  module _ {left : Bool} {first k : ℕ} {after : BitMatrix} (h : first ≤ center.x + steps_right image.shape angle) (room : left ≡ true → 16 ≤ first)
      (kept : Kept image after) (taken : Taken left image.shape center angle 16 first image.words.now image.marks.now k after.marks.now) where
    enough : left ≡ true → k ≤ first
    enough = walk_enough image center angle inside of (begun left h) (omega arith) room kept taken

    fits : first + k < 2 ^ 32
    fits = walk_fits image center angle inside of (begun left h) (omega arith) room kept taken

    module _ {x : ℕ} (is : x ≡ column left first k) where
      ends_soon : k < 16 → RanOn (rest left image.shape center angle first) image x after
      ends_soon = walk_stops image center angle inside of (begun left h) (omega arith) room kept taken is

      onward : 16 ≤ k → Walking image center angle left first after x
      onward = walk_onward image center angle inside of (begun left h) (omega arith) room kept taken is

      near : 16 ≤ k → x ≤ center.x + steps_right after.shape angle
      near more = rw kept.shape (onward more).near

      ends_later : {last : BitMatrix} {y : ℕ} → 16 ≤ k → RanOn (rest left after.shape center angle x) after y last
          → RanOn (rest left image.shape center angle first) image y last
      ends_later more run = walk_ends image center angle (onward more) run

pub step-taken-requires : goal.step-taken-requires
step-taken-requires g c = search (room_of, low, rules)

pub column-x-requires : goal.column-x-requires
column-x-requires g c = search (enough, fits, room_of, rules)

pub returns-then-taken-lt16 : goal.returns-then-taken-lt16
returns-then-taken-lt16 g c = search (ends_soon, room_of, rules)

pub strides-requires : goal.strides-requires
strides-requires g c = search (still_inside, near, room_of, rules)

pub returns : goal.returns
returns g c = search (ends_later, room_of, rules)
