-- `bit_matrix_rectangle::BlackRows::right` meets its contract.
use Rattle.std.proofs.Common.{ℕ, suc, ◌+◌, ◌*◌, ◌-◌, ◌^◌, ◌≤◌, ◌<◌, arith, true, false, List, ◌≡◌, sym, ap, ◌∙◌}
use Rattle.std.proofs.Math.Decide.{dec_lt}
use lib.Count.{count_leading_zeros}
use Rattle.reads.specs.Bits.{test_bit}
use Rattle.bit_matrix.specs.declared.Shape.{Shape}
use Rattle.bit_matrix_rectangle.specs.Rectangle.{black_at, greatest_below, black_column}
use Rattle.bit_matrix_rectangle.specs.RectangleClauses.{ImageAccepted, ColumnWord}
use Rattle.bit_matrix_rectangle.proofs.Extremes.{greatest_is, greatest_none}
use Rattle.bit_matrix_rectangle.proofs.Words.{highest, zero_white, column_inside}
use Rattle.bit_matrix_rectangle.proofs.BlackRows.right.Invariants.{Passed}
use Rattle.bit_matrix_rectangle.proofs.BlackRows.right.Goals as goal

module _ (shape : Shape) (words : List ℕ) where
  begins : Passed shape words shape.row_words
  begins = record { most = omega arith; white = λ c h l. absurd (omega arith) }

  module _ {x : ℕ} (passed : Passed shape words x) (some_left : 0 < x) where
    -- the columns from bit n of the word before x on, where its bits from n on are clear
    past : (v n : ℕ) → ColumnWord shape words (x - 1) v → ((k : ℕ) → n ≤ k → test_bit v k ≡ false) → (c : ℕ) → (x - 1) * 64 + n ≤ c
        → c < 64 * shape.row_words → black_column (black_at shape words) shape.height c ≡ false
    past v n is clear c after column = go (dec_lt c (x * 64))
      where
        go : Dec (c < x * 64) → black_column (black_at shape words) shape.height c ≡ false
        go (no h) = passed.white c (omega arith) column
        go (yes h) =
            let place : (x - 1) * 64 + (c - (x - 1) * 64) ≡ c = omega arith in
            ap (black_column (black_at shape words) shape.height) (sym place) ∙ sym (is.bits (c - (x - 1) * 64) (omega arith))
            ∙ clear (c - (x - 1) * 64) (omega arith)

    onward : {v : ℕ} → ColumnWord shape words (x - 1) v → v ≡ 0 → Passed shape words (x - 1)
    onward {v} is none = record {
      most = omega (arith, passed.most);
      white = λ c h l. past v 0 is (λ k m. zero_white v none k) c (omega arith) l;
    }

    found : {v r : ℕ} → ImageAccepted shape words → ColumnWord shape words (x - 1) v → (v ≡ 0 → ⊥) → v < 2 ^ 64 → r ≡ (x - 1) * 64 + 63 - count_leading_zeros 64 v
        → r ≡ greatest_below (black_column (black_at shape words) shape.height) shape.width
    found {v} {r} ok is some fits e =
        let last = highest v some fits in
        let n : ℕ = last.0 in
        let low : n < 64 = omega (arith, last.1) in
        let here : r ≡ (x - 1) * 64 + n = omega (arith, last.1) in
        let column : (x - 1) * 64 + n < 64 * shape.row_words = omega (arith, passed.most) in
        let black : black_column (black_at shape words) shape.height ((x - 1) * 64 + n) ≡ true = sym (is.bits n low) ∙ last.2 in
        let inside : (x - 1) * 64 + n < shape.width = column_inside ok ((x - 1) * 64 + n) column black in
        here
        ∙ greatest_is (black_column (black_at shape words) shape.height) shape.width {r = (x - 1) * 64 + n} inside black
        (λ c h l. past v (suc n) is (λ k m. last.3 k (omega arith)) c (omega arith) (omega (arith, ok.limits.rows)))

  at_end : {x : ℕ} → Passed shape words x → ImageAccepted shape words → x ≤ 0
      → 0 ≡ greatest_below (black_column (black_at shape words) shape.height) shape.width
  at_end passed ok none =
      greatest_none (black_column (black_at shape words) shape.height) shape.width λ c h.
      passed.white c (omega arith) (omega (arith, ok.limits.rows))

pub returns-then-word-ne0 : goal.returns-then-word-ne0
returns-then-word-ne0 c = search found

pub loop-x-preserved : goal.loop-x-preserved
loop-x-preserved c = search onward

pub returns : goal.returns
returns c = search at_end
