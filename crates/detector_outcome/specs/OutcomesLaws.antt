-- What a bill goes by: the class is 4 exactly when the outcome is not 1, and with outcome 1 it is the turn's quarter; so it is one of 0 to 4.
-- Assumes nothing.
use Rattle.std.specs.Prelude.{◌≡◌, ℕ, ◌<◌, ◌≤◌, ◌↔◌, ◌≢◌, refl}
use Rattle.std.proofs.Common.{arith}
use Rattle.detector_outcome.specs.declared.Outcome.{Outcome}
use Rattle.detector_outcome.specs.declared.Outcome.TheVariants.{Turned, NoTurn, LostCentre, Ellipse}
use Rattle.detector_outcome.specs.declared.Turn.{Turn}
use Rattle.detector_outcome.specs.Outcomes.{if_outcome, outcome_number, degree_of, quarter_of, class_of}

pub quarter_low : (degree : ℕ) → quarter_of degree < 4
unfolding quarter_of
quarter_low degree = omega arith

-- a class beside the word of an outcome, of a turn by so many degrees
pub record Classed (outcome degree class : ℕ) : Type 0 where
  pub four : (class ≡ 4) ↔ (outcome ≢ 1)
  pub quarter : outcome ≡ 1 → class ≡ quarter_of degree
  pub most : class ≤ 4

classed_without : (outcome degree : ℕ) → (outcome ≢ 1) → Classed outcome degree 4
classed_without outcome degree other = record { four = (λ _. other, λ _. refl); quarter = λ turned. absurd (other turned); most = omega arith }

classed_with : (degree : ℕ) → Classed 1 degree (quarter_of degree)
classed_with degree = record {
  four = (λ e. absurd (omega (arith, quarter_low degree)), λ other. absurd (other refl));
  quarter = λ _. refl;
  most = omega (arith, quarter_low degree);
}

pub class_by_outcome : (turn : Turn) → Classed (outcome_number turn.outcome) turn.degree (class_of turn)
class_by_outcome turn = by turn.outcome
  where
    by : (outcome : Outcome)
        → Classed (outcome_number outcome) turn.degree (if_outcome (λ rotation. quarter_of turn.degree) 4 4 4 outcome)
    by (Turned rotation) = classed_with turn.degree
    by NoTurn = classed_without 0 turn.degree (λ e. omega arith)
    by LostCentre = classed_without 2 turn.degree (λ e. omega arith)
    by Ellipse = classed_without 3 turn.degree (λ e. omega arith)

-- ---- what `class_of` asks

-- a turn whose degree is low meets it, whatever its outcome
pub degree_le : (turn : Turn) → degree_of turn ≤ turn.degree
degree_le turn = by turn.outcome
  where
    by : (outcome : Outcome) → if_outcome (λ rotation. turn.degree) 0 0 0 outcome ≤ turn.degree
    by (Turned rotation) = omega arith
    by NoTurn = omega arith
    by LostCentre = omega arith
    by Ellipse = omega arith
