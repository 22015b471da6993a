-- The corners of a symbol's box in `box_symbol` of detector.rs, plain or turned about the corrected centre. An ellipse has none: zeros. Definitions only.
-- Assumes nothing.
use Rattle.std.specs.Prelude.{ℕ, List, [], ◌∷◌, map}
use Rattle.std.specs.Float.Ieee.{to_unsigned}
use Rattle.rxing_result_point.specs.declared.Point.{Point}
use Rattle.rxing_result_point.specs.declared.PointU.{PointU}
use Rattle.rxing_result_point.specs.Points.{real, get_point}
use Rattle.detector_boundary.specs.declared.Boundary.{Boundary}
use Rattle.detector_outcome.specs.declared.Turn.{Turn}
use Rattle.detector_outcome.specs.Outcomes.{if_outcome}

abbrev pub corner : ℕ → ℕ → Point
corner x y = record { x = real x; y = real y }

-- `naive_box`: (left, bottom), (left, top), (right, bottom), (right, top)
unfoldable pub plain_corners : Boundary → List Point
plain_corners b = corner b.left b.bottom ∷ corner b.left b.top ∷ corner b.right b.bottom ∷ corner b.right b.top ∷ []

-- a corner turned by `get_point`; its coordinates are cast back to u32
unfoldable pub turned_corner : PointU → ℕ → Point → Point
turned_corner center degree p = get_point center (record { x = to_unsigned 32 p.x; y = to_unsigned 32 p.y }) degree

abbrev pub turned_corners : Boundary → PointU → ℕ → List Point
turned_corners b center degree = map (turned_corner center degree) (plain_corners b)

-- no box
abbrev pub no_corners : List Point
no_corners = corner 0 0 ∷ corner 0 0 ∷ corner 0 0 ∷ corner 0 0 ∷ []

-- a corner by a turn, without the casts
abbrev pub corner_by : Turn → ℕ → ℕ → Point
corner_by turn x y =
    if_outcome (λ rotation. get_point turn.center (record { x = x; y = y }) turn.degree) (corner x y) (corner x y) (corner 0 0) turn.outcome

-- turned about the turn's centre, plain, or none
unfoldable pub corners_of : Boundary → Turn → List Point
corners_of b turn =
    if_outcome (λ rotation. turned_corners b turn.center turn.degree) (plain_corners b) (plain_corners b) no_corners turn.outcome
