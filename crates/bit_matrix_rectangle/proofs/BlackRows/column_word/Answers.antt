-- `bit_matrix_rectangle::BlackRows::column_word` meets its contract.
use Rattle.std.proofs.Common.{ℕ, ◌+◌, ◌*◌, ◌≤◌, ◌<◌, add-one, arith, Bool, true, false, cond, ◌||◌, List, ◌≡◌, refl, sym, ap₂, ◌∙◌, bit_or, length, get_or}
use Rattle.std.proofs.Math.Arith.{digits_lt}
use Rattle.reads.specs.Bits.{test_bit}
use Rattle.reads.proofs.BitsLaws.{test_or, test_zero}
use Rattle.bit_matrix.specs.declared.Shape.{Shape}
use Rattle.crop_padding.specs.Below.{any_below}
use Rattle.crop_padding.specs.AnyLaws.{any_until, none_below}
use Rattle.bit_matrix_rectangle.specs.Rectangle.{black_at}
use Rattle.bit_matrix_rectangle.specs.RectangleClauses.{ImageAccepted, Rows, ColumnWord}
use Rattle.bit_matrix_rectangle.proofs.Words.{black_word}
use Rattle.bit_matrix_rectangle.proofs.BlackRows.column_word.Invariants.{Joined}
use Rattle.bit_matrix_rectangle.proofs.BlackRows.column_word.Goals as goal

-- the definition takes the last row first
or_last_first : (b c : Bool) → (b || c) ≡ cond c true b
or_last_first true true = refl
or_last_first true false = refl
or_last_first false true = refl
or_last_first false false = refl

module _ (shape : Shape) (words : List ℕ) (x : ℕ) (ok : ImageAccepted shape words) (column : x < shape.row_words) where
  inside : (y : ℕ) → y < shape.height → y * shape.row_words + x < length words
  inside y row = rw ok.stored (omega (arith, digits_lt {r = x} {c = shape.row_words} row column))

  module _ {top bottom : ℕ} (rows : Rows shape words top bottom) where
    begins : Joined shape words x bottom 0 top
    begins = record {
      most = omega (arith, rows.order);
      bits = λ k h. test_zero k ∙ sym (none_below (λ y. black_at shape words (x * 64 + k) y) top λ y above. rows.above (x * 64 + k) y (omega arith) above);
    }

    at_end : {word y : ℕ} → Joined shape words x bottom word y → bottom + 1 ≤ y → ColumnWord shape words x word
    at_end {y = y} joined past =
        let last : y ≡ bottom + 1 = omega (arith, joined.most) in
        record {
          bits = λ k h.
              joined.bits k h
              ∙ any_until (λ j. black_at shape words (x * 64 + k) j) y shape.height (omega (arith, rows.most)) λ j below row.
              rows.below (x * 64 + k) j (omega arith) (omega arith) row;
        }

  onward : {bottom word : ℕ} (y : ℕ) → Joined shape words x bottom word y → y < bottom + 1
      → Joined shape words x bottom (bit_or word (get_or words (y * shape.row_words + x) 0)) (y + 1)
  unfolding any_below
  onward {word = word} y joined row = record {
    most = omega arith;
    bits = λ k h.
        let v : ℕ = get_or words (y * shape.row_words + x) 0 in
        rw add-one
        (test_or word v k ∙ or_last_first (test_bit word k) (test_bit v k) ∙ ap₂ (λ (b c : Bool). cond b true c) (sym (black_word ok x k y h)) (joined.bits k h));
  }

pub loop-y-init : goal.loop-y-init
loop-y-init c = search begins

pub loop-y-preserved : goal.loop-y-preserved
loop-y-preserved c = search onward

pub returns : goal.returns
returns c = search at_end
