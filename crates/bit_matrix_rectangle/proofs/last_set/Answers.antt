-- `bit_matrix_rectangle::last_set` meets its contract.
use Rattle.std.specs.Prelude.{ℕ, ◌<◌, List, Option, Some, None, MatchOption, ◌≡◌, length, get_or}
use Rattle.std.proofs.Common.{rules, arith, sym}
use Rattle.std.proofs.iter.runs.Made.{chains}
use Rattle.bit_matrix_rectangle.specs.Rectangle.{least_below, greatest_below}
use Rattle.bit_matrix_rectangle.specs.RectangleClauses.{is_set}
use Rattle.bit_matrix_rectangle.proofs.Extremes.{least_is, greatest_is}
use Rattle.bit_matrix_rectangle.proofs.Words.{word_set, word_clear}
use Rattle.bit_matrix_rectangle.proofs.last_set.Goals as goal

last_is : (words : List ℕ) (r : Option ℕ)
    → MatchOption r ((k : ℕ) → k < length words → get_or words k 0 ≡ 0)
    (λ i. (i < length words) × (get_or words i 0 ≡ 0 → ⊥) × ((k : ℕ) → i < k → k < length words → get_or words k 0 ≡ 0))
    → MatchOption r (least_below (is_set words) (length words) ≡ length words) (λ i. i ≡ greatest_below (is_set words) (length words))
last_is words None clear =
    sym (least_is (is_set words) (length words) (length words) (omega arith) (λ k h. word_clear words k (clear k h)) (λ h. absurd (omega arith)))
last_is words (Some i) found =
    greatest_is (is_set words) (length words) found.0 (word_set words i found.1) λ k h l. word_clear words k (found.2 k h l)

pub returns : goal.returns
returns c = last_is c.args.words.now c.rposition.result (search (rules, chains))
