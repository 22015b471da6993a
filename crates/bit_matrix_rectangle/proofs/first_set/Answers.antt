-- `bit_matrix_rectangle::first_set` meets its contract.
use Rattle.std.specs.Prelude.{ℕ, ◌<◌, List, Option, Some, None, MatchOption, ◌≡◌, length, get_or}
use Rattle.std.proofs.Common.{rules, arith, sym}
use Rattle.std.proofs.iter.runs.Made.{chains}
use Rattle.bit_matrix_rectangle.specs.Rectangle.{least_below}
use Rattle.bit_matrix_rectangle.specs.RectangleClauses.{is_set}
use Rattle.bit_matrix_rectangle.proofs.Extremes.{least_is}
use Rattle.bit_matrix_rectangle.proofs.Words.{word_set, word_clear}
use Rattle.bit_matrix_rectangle.proofs.first_set.Goals as goal

first_is : (words : List ℕ) (r : Option ℕ)
    → MatchOption r ((k : ℕ) → k < length words → get_or words k 0 ≡ 0)
    (λ i. (i < length words) × (get_or words i 0 ≡ 0 → ⊥) × ((k : ℕ) → k < i → get_or words k 0 ≡ 0))
    → MatchOption r (least_below (is_set words) (length words) ≡ length words) (λ i. (i ≡ least_below (is_set words) (length words)) × (i < length words))
first_is words None clear =
    sym (least_is (is_set words) (length words) (length words) (omega arith) (λ k h. word_clear words k (clear k h)) (λ h. absurd (omega arith)))
first_is words (Some i) found = (
  least_is (is_set words) (length words) i (omega (arith, found.0)) (λ k h. word_clear words k (found.2 k h)) (λ h. word_set words i found.1),
  found.0,
)

pub returns-clause-first : goal.returns-clause-first
returns-clause-first c = first_is c.args.words.now c.position.result (search (rules, chains))
