-- `detector_cells::get` meets its contract: the shift and mask read the pixel's bit.
use Rattle.std.proofs.Common.{ℕ, ◌+◌, ◌*◌, ◌/◌, ◌%◌, ◌^◌, ◌<◌, arith, not, List, ◌≡◌, refl, bit_and, eqb, length, get_or}
use Rattle.std.proofs.lemmas.Nat.{and_mask}
use Rattle.reads.specs.Bits.{test_bit, bit_at}
use Rattle.bit_matrix.specs.declared.Shape.{Shape}
use Rattle.bit_matrix.specs.Shape.{size}
use Rattle.bit_matrix.specs.ShapeClauses.{Limits, Inside}
use Rattle.bit_matrix.specs.Pixels.{offset}
use Rattle.bit_matrix.specs.PixelsLaws.{ran_pixel, inside_stored}
use Rattle.bit_matrix_rectangle.specs.Rectangle.{black_at}
use Rattle.detector_cells.proofs.get.Goals as goal

module _ (words : List ℕ) (shape : Shape) (x y : ℕ) {n : ℕ} (is : n ≡ offset shape x y) (stored : length words ≡ size shape) where
  inside : Limits shape → Inside shape x y → n < length words
  inside limits within = omega (arith, is, stored, inside_stored limits x y within)

  tested : not (eqb (bit_and (get_or words n 0 / 2 ^ (x % 64)) 1) 0) ≡ black_at shape words x y
  unfolding bit_at test_bit
  tested =
      let word : (y * shape.row_words * 64 + x) / 64 ≡ n = omega (arith, is) in
      let place : (y * shape.row_words * 64 + x) % 64 ≡ x % 64 = omega arith in
      rw (and_mask (get_or words n 0 / 2 ^ (x % 64)) 1, ← word, ← place) (ran_pixel words words shape x y stored refl).result

pub returns : goal.returns
returns c = search tested
