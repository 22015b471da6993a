-- `detector_corners::corners_of` meets its contract: what the calls ensure, by the outcome; the casts change no corner that is turned (`whole_corners`).
use Rattle.std.proofs.Common.{◌≡◌, ℕ, List, [], ◌∷◌, sym, refl}
use Rattle.rxing_result_point.specs.declared.Point.{Point}
use Rattle.rxing_result_point.specs.declared.PointU.{PointU}
use Rattle.detector_boundary.specs.declared.Boundary.{Boundary}
use Rattle.detector_boundary.specs.BoundaryClauses.{Placed}
use Rattle.detector_outcome.specs.declared.Outcome.{Outcome}
use Rattle.detector_outcome.specs.declared.Outcome.TheVariants.{Turned, NoTurn, LostCentre, Ellipse}
use Rattle.detector_outcome.specs.declared.Turn.{Turn}
use Rattle.detector_corners.specs.Corners.{corner_by, plain_corners, corners_of}
use Rattle.detector_corners.proofs.Whole.{whole_corners}
use Rattle.detector_corners.proofs.corners_of.Goals as goal

abbrev four : Boundary → Turn → List Point
four b turn =
    corner_by turn b.left b.bottom ∷ corner_by turn b.left b.top ∷ corner_by turn b.right b.bottom ∷ corner_by turn b.right b.top ∷ []

module _ (b : Boundary) (placed : Placed b) (degree scale : ℕ) (center : PointU) where
  abbrev with_outcome : Outcome → Turn
  with_outcome outcome = record { outcome = outcome; degree = degree; scale = scale; center = center }

  by_outcome : (outcome : Outcome) → four b (with_outcome outcome) ≡ corners_of b (with_outcome outcome)
  unfolding corners_of plain_corners
  by_outcome (Turned rotation) = sym (whole_corners b center degree placed)
  by_outcome NoTurn = refl
  by_outcome LostCentre = refl
  by_outcome Ellipse = refl

corners : (b : Boundary) (turn : Turn) {p q r s : Point} → Placed b → p ≡ corner_by turn b.left b.bottom → q ≡ corner_by turn b.left b.top
    → r ≡ corner_by turn b.right b.bottom → s ≡ corner_by turn b.right b.top → p ∷ q ∷ r ∷ s ∷ [] ≡ corners_of b turn
corners b turn placed e f g h = rw (e, f, g, h) (by_outcome b placed turn.degree turn.scale turn.center turn.outcome)

pub returns : goal.returns
returns c = search corners
