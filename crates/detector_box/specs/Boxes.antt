-- `box_symbol` of detector.rs: the plain box of the first centre, turned about the corrected centre where a scale finds a turn. With the option on an
-- ellipse ends it before. Definitions only. Assumes nothing.
use Rattle.std.specs.Prelude.{Bool, true, false, cond}
use Rattle.reads.specs.Reads.{Reads, done, ◌>>=◌}
use Rattle.bit_matrix.specs.declared.Shape.{Shape}
use Rattle.detector_boundary.specs.declared.Boundary.{Boundary}
use Rattle.detector_boundary.specs.Boundary.{plain_boundary}
use Rattle.detector_circle.specs.declared.Circle.{Circle}
use Rattle.detector_outcome.specs.declared.Turn.{Turn}
use Rattle.detector_outcome.specs.Outcomes.{ellipse_at, class_of}
use Rattle.detector_corners.specs.Corners.{corners_of}
use Rattle.detector_symbol.specs.declared.Symbol.{Symbol}
use Rattle.detector_ellipse.specs.Ellipse.{detect_ellipse}
use Rattle.detector_turn.specs.Scales.{try_scales}

-- the symbol of a plain box and a turn
abbrev pub symbol_of : Boundary → Turn → Symbol
symbol_of b turn = record { turn = turn; corners = corners_of b turn; class = class_of turn }

-- the scales; before them, with the option on, the ellipse check, from the first centre
unfoldable pub turn_at : Bool → Shape → Circle → Reads Turn
turn_at false shape circle = try_scales shape circle
turn_at true shape circle = do
  skewed ← detect_ellipse shape circle.center
  cond skewed (done (ellipse_at circle.center)) (try_scales shape circle)

-- `box_symbol`, with the option on or off; the plain box is that of the first centre
unfoldable pub symbol_at : Bool → Shape → Circle → Reads Symbol
symbol_at ellipse shape circle = do
  turn ← turn_at ellipse shape circle
  done (symbol_of (plain_boundary shape circle.center circle.radius) turn)
