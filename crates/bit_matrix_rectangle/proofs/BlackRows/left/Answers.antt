-- `bit_matrix_rectangle::BlackRows::left` meets its contract.
use Rattle.std.proofs.Common.{ℕ, ◌+◌, ◌*◌, ◌-◌, ◌^◌, ◌≤◌, ◌<◌, arith, true, false, List, ◌≡◌, sym, ap, ◌∙◌}
use Rattle.std.proofs.Math.Decide.{dec_lt}
use lib.Count.{count_trailing_zeros}
use Rattle.reads.specs.Bits.{test_bit}
use Rattle.bit_matrix.specs.declared.Shape.{Shape}
use Rattle.bit_matrix_rectangle.specs.Rectangle.{black_at, least_below, black_column}
use Rattle.bit_matrix_rectangle.specs.RectangleClauses.{ImageAccepted, ColumnWord}
use Rattle.bit_matrix_rectangle.proofs.Extremes.{least_is}
use Rattle.bit_matrix_rectangle.proofs.Words.{lowest, test_clear, zero_white, column_inside}
use Rattle.bit_matrix_rectangle.proofs.BlackRows.left.Invariants.{Passed}
use Rattle.bit_matrix_rectangle.proofs.BlackRows.left.Goals as goal

module _ (shape : Shape) (words : List ℕ) where
  begins : Passed shape words 0
  begins = record { white = λ c h. absurd (omega arith) }

  module _ {x : ℕ} (passed : Passed shape words x) where
    -- the columns before bit n of word x, where its bits before n are clear
    upto : (v n : ℕ) → ColumnWord shape words x v → n ≤ 64 → ((k : ℕ) → k < n → test_bit v k ≡ false) → (c : ℕ) → c < x * 64 + n
        → black_column (black_at shape words) shape.height c ≡ false
    upto v n is low clear c before = go (dec_lt c (x * 64))
      where
        go : Dec (c < x * 64) → black_column (black_at shape words) shape.height c ≡ false
        go (yes h) = passed.white c h
        go (no h) =
            let place : x * 64 + (c - x * 64) ≡ c = omega arith in
            ap (black_column (black_at shape words) shape.height) (sym place) ∙ sym (is.bits (c - x * 64) (omega arith)) ∙ clear (c - x * 64) (omega arith)

    onward : {v : ℕ} → ColumnWord shape words x v → x < shape.row_words → v ≡ 0 → Passed shape words (x + 1)
    onward {v} is more none = record {
      white = λ c h. upto v 64 is (omega arith) (λ k l. zero_white v none k) c (omega arith);
    }

    found : {v r : ℕ} → ImageAccepted shape words → ColumnWord shape words x v → x < shape.row_words → (v ≡ 0 → ⊥) → v < 2 ^ 64
        → r ≡ x * 64 + count_trailing_zeros 64 v → r ≡ least_below (black_column (black_at shape words) shape.height) shape.width
    found {v} {r} ok is more some fits e =
        let first = lowest v some fits in
        let n : ℕ = count_trailing_zeros 64 v in
        let black : black_column (black_at shape words) shape.height (x * 64 + n) ≡ true = sym (is.bits n first.0) ∙ first.1 in
        let inside : x * 64 + n < shape.width = column_inside ok (x * 64 + n) (omega (arith, first.0)) black in
        e
        ∙ least_is (black_column (black_at shape words) shape.height) shape.width (x * 64 + n) (omega arith)
        (upto v n is (omega (arith, first.0)) (test_clear v)) (λ h. black)

    at_end : ImageAccepted shape words → shape.row_words ≤ x → shape.width ≡ least_below (black_column (black_at shape words) shape.height) shape.width
    at_end ok past =
        least_is (black_column (black_at shape words) shape.height) shape.width shape.width (omega arith)
        (λ c h. passed.white c (omega (arith, ok.limits.rows))) (λ h. absurd (omega arith))

pub returns-then-word-ne0 : goal.returns-then-word-ne0
returns-then-word-ne0 c = search found

pub loop-x-preserved : goal.loop-x-preserved
loop-x-preserved c = search onward

pub returns : goal.returns
returns c = search at_end
