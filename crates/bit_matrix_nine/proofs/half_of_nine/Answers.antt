-- `bit_matrix_nine::half_of_nine` meets its contract: three rows of three, one after another.
use Rattle.std.proofs.Common.{ℕ, ◌+◌, ◌*◌, ◌%◌, Bool, List, ◌≡◌, arith, leb}
use Rattle.reads.specs.Bits.{range}
use Rattle.bit_matrix.specs.declared.BitMatrix.{BitMatrix}
use Rattle.bit_matrix.specs.ImageClauses.{Kept}
use Rattle.bit_matrix.specs.Pixels.{offset}
use Rattle.bit_matrix.proofs.ImageLaws.{kept_on}
use Rattle.bit_matrix_nine.specs.AreaWords.{ones, TakenBits, HalfBlack, nine_of}
use Rattle.bit_matrix_nine.proofs.Taking.{taken_low, half_black}
use Rattle.bit_matrix_nine.proofs.half_of_nine.Goals as goal

-- bits taken from an image that is as another but for its marks
taken_onto : {i₀ i₁ : BitMatrix} {is after : List ℕ} {n : ℕ} → Kept i₀ i₁ → TakenBits i₁.words.now i₁.marks.now is n after
    → TakenBits i₀.words.now i₁.marks.now is n after
taken_onto kept taken = rw kept.words at taken

module _ {i₀ i₁ i₂ : BitMatrix} (x y : ℕ) {n : ℕ} (at : n ≡ offset i₀.shape x y) (first_kept : Kept i₀ i₁) (second_kept : Kept i₁ i₂) where
  half : {after : List ℕ} {a b c : ℕ} {r : Bool}
      → TakenBits i₀.words.now i₀.marks.now (range (n * 64 + x % 64) 3) a i₁.marks.now
      → TakenBits i₁.words.now i₁.marks.now (range ((n + i₀.shape.row_words) * 64 + x % 64) 3) b i₂.marks.now
      → TakenBits i₂.words.now i₂.marks.now (range ((n + 2 * i₀.shape.row_words) * 64 + x % 64) 3) c after
      → r ≡ leb 9 (2 * (ones a + ones b + ones c))
      → HalfBlack i₀.words.now i₀.marks.now (nine_of i₀.shape x y) r after
  half first second third =
      half_black i₀.shape x y _ _ _ (omega arith) (omega arith) (omega arith)
      first (taken_onto first_kept second) (taken_onto (kept_on first_kept second_kept) third)

pub five_of_nine-requires : goal.five_of_nine-requires
five_of_nine-requires c = search taken_low

pub returns-clause-half : goal.returns-clause-half
returns-clause-half c = search half
