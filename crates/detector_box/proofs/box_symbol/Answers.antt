-- `detector_box::box_symbol` meets its contract: the turn's run, and what the other calls ensure.
use Rattle.std.proofs.Common.{ℕ, ◌<◌, arith, Bool, List, ◌≡◌, ◌∙◌}
use Rattle.reads.proofs.RunsLaws.{always_ran}
use Rattle.bit_matrix.specs.declared.BitMatrix.{BitMatrix}
use Rattle.bit_matrix.specs.ImageClauses.{RanOn}
use Rattle.bit_matrix.proofs.ImageLaws.{on_bind, on_is}
use Rattle.rxing_result_point.specs.declared.Point.{Point}
use Rattle.detector_boundary.specs.declared.Boundary.{Boundary}
use Rattle.detector_boundary.specs.Boundary.{plain_boundary}
use Rattle.detector_boundary.specs.InImageLaws.{plain_placed}
use Rattle.detector_boundary.specs.BoundaryClauses.{Placed}
use Rattle.detector_circle.specs.declared.Circle.{Circle}
use Rattle.detector_outcome.specs.declared.Turn.{Turn}
use Rattle.detector_outcome.specs.declared.Class.{Class}
use Rattle.detector_outcome.specs.Outcomes.{degree_of, class_of, class_number}
use Rattle.detector_outcome.specs.OutcomesLaws.{degree_le}
use Rattle.detector_turn.specs.ScalesClauses.{InsideCircle}
use Rattle.detector_box.specs.Boxes.{turn_at, symbol_at}
use Rattle.detector_box.specs.BoxesLaws.{turn_ended}
use Rattle.detector_corners.specs.Corners.{corners_of}
use Rattle.detector_box.proofs.box_symbol.Goals as goal

module _ {i₀ i₁ : BitMatrix} (circle : Circle) (ellipse : Bool) {turn : Turn} (run : RanOn (turn_at ellipse i₀.shape circle) i₀ turn i₁) where
  placed : {b : Boundary} → InsideCircle i₀.shape circle → b ≡ plain_boundary i₁.shape circle.center circle.radius → Placed b
  placed here e =
      rw (e, run.kept.shape) (plain_placed (record { limits = i₀.is_image.limits; inside = here.inside }) here.least here.most)

  low : InsideCircle i₀.shape circle → degree_of turn < 360
  low here =
      let ended = always_ran (turn_ended ellipse i₀.shape circle here.inside) run.ran in
      omega (arith, ended.low, degree_le turn)

  boxed : (class : Class) {b : Boundary} {corners : List Point} {word : ℕ} → b ≡ plain_boundary i₁.shape circle.center circle.radius
      → corners ≡ corners_of b turn → class_number class ≡ class_of turn → word ≡ class_number class
      → RanOn (symbol_at ellipse i₀.shape circle) i₀ (record { turn = turn; corners = corners; class = word }) i₁
  unfolding symbol_at
  boxed class e f g h = on_bind _ run (on_is (rw (f, h ∙ g, e, run.kept.shape)))

pub corners_of-corners-requires : goal.corners_of-corners-requires
corners_of-corners-requires c = search placed

pub class_of-class-requires : goal.class_of-class-requires
class_of-class-requires c = search low

pub returns : goal.returns
returns c = search boxed
