-- What `box_symbol` comes to, an outcome's words in a record, and the class of a symbol (docs/MANUAL.md, "Records and printed lines" and
-- "Handling classes"). Definitions only. Assumes nothing.
use Rattle.std.specs.Prelude.{ℕ, ◌+◌, ◌/◌, ◌%◌, Float}
use Rattle.std.specs.Float.{binary32}
use Rattle.std.specs.Float.Ieee.{to_bits}
use Rattle.rxing_result_point.specs.declared.PointU.{PointU}
use Rattle.rxing_result_point.specs.Points.{real}
use Rattle.detector_outcome.specs.declared.Outcome.{Outcome}
use Rattle.detector_outcome.specs.declared.Turn.{Turn}
use Rattle.detector_outcome.specs.declared.Class.{Class}
use Rattle.detector_outcome.specs.declared.Outcome.TheVariants.{Turned, NoTurn, LostCentre, Ellipse}
use Rattle.detector_outcome.specs.declared.Class.TheVariants.{Upright, QuarterTurn, HalfTurn, ThreeQuarterTurn, WithoutTurn}

-- what a turn holds in each of the four cases
abbrev pub turned_by : ℕ → ℕ → PointU → Turn
turned_by degree scale center = record { outcome = Turned (real degree); degree = degree; scale = scale; center = center }

abbrev pub not_turned : PointU → Turn
not_turned center = record { outcome = NoTurn; degree = 0; scale = 0; center = center }

abbrev pub lost_at : ℕ → PointU → Turn
lost_at scale center = record { outcome = LostCentre; degree = 0; scale = scale; center = center }

abbrev pub ellipse_at : PointU → Turn
ellipse_at center = record { outcome = Ellipse; degree = 0; scale = 0; center = center }

-- by cases on an outcome
abbrev pub if_outcome : {B : Type 0} → (Float → B) → B → B → B → Outcome → B
if_outcome turned none lost ellipse (Turned rotation) = turned rotation
if_outcome turned none lost ellipse NoTurn = none
if_outcome turned none lost ellipse LostCentre = lost
if_outcome turned none lost ellipse Ellipse = ellipse

-- the word for the outcome
abbrev pub outcome_number : Outcome → ℕ
outcome_number outcome = if_outcome (λ rotation. 1) 0 2 3 outcome

-- the degree of the turn, 0 without one
abbrev pub degree_of : Turn → ℕ
degree_of turn = if_outcome (λ rotation. turn.degree) 0 0 0 turn.outcome

-- the scale that turned or lost the centre, 0 without one
abbrev pub scale_of : Turn → ℕ
scale_of turn = if_outcome (λ rotation. turn.scale) 0 turn.scale 0 turn.outcome

-- the word for the rotation
abbrev pub rotation_bits : Outcome → ℕ
rotation_bits outcome = if_outcome (to_bits binary32) 0 0 0 outcome

-- a degree in quarters of a full turn, to the nearest; the fourth is the zeroth
unfoldable pub quarter_of : ℕ → ℕ
quarter_of degree = (degree + 45) / 90 % 4

-- the class of a symbol: with a turn its quarter, without one 4
abbrev pub class_of : Turn → ℕ
class_of turn = if_outcome (λ rotation. quarter_of turn.degree) 4 4 4 turn.outcome

-- the word for a class
abbrev pub class_number : Class → ℕ
class_number Upright = 0
class_number QuarterTurn = 1
class_number HalfTurn = 2
class_number ThreeQuarterTurn = 3
class_number WithoutTurn = 4
