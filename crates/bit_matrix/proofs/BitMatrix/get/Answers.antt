-- `bit_matrix::BitMatrix::get` meets its contract: past the last word nothing is read, and otherwise the shift and mask read the pixel's bit, and the
-- union marks it.
use Rattle.std.proofs.Common.{◌≡◌, refl, sym, ◌∙◌, false, not, List, ℕ, ◌+◌, ◌*◌, ◌/◌, ◌%◌, ◌^◌, ◌≤◌, ◌<◌, one-mul, arith, lt-ltb, le-ltb, length, get_or, set, bit_and, bit_or, eqb, lit<, shl_exact}
use Rattle.std.proofs.Math.Arith.{digits_div, digits_mod}
use Rattle.std.proofs.lemmas.Nat.{and_mask}
use Rattle.reads.specs.Bits.{test_bit, set_bit, bit_at, mark}
use Rattle.reads.specs.RunsClauses.{Ran}
use Rattle.reads.proofs.RunsLaws.{ran_done, ran_read, ran_then, ran_else}
use Rattle.bit_matrix.specs.declared.Shape.{Shape}
use Rattle.bit_matrix.specs.Shape.{size}
use Rattle.bit_matrix.specs.Pixels.{offset, pixel}
use Rattle.bit_matrix.proofs.ImageLaws.{kept_same}
use Rattle.bit_matrix.proofs.BitMatrix.get.Goals as goal

-- n is the word that holds the pixel
module _ (ws ms : List ℕ) (shape : Shape) (x y n : ℕ) (e : n ≡ offset shape x y) where
  -- the bit's index, and its word and place
  index : ℕ
  index = offset shape x y * 64 + x % 64

  word : index / 64 ≡ n
  unfolding index
  word = digits_div (offset shape x y) (omega arith) ∙ sym e

  place : index % 64 ≡ x % 64
  unfolding index
  place = digits_mod (offset shape x y) (omega arith)

  -- the code's shift and mask test the bit, and its union sets it
  tested : not (eqb (bit_and (get_or ws n 0 / 2 ^ (x % 64)) 1) 0) ≡ bit_at ws index
  unfolding bit_at test_bit
  tested = rw (word, place, and_mask (get_or ws n 0 / 2 ^ (x % 64)) 1)

  united : set ms n (bit_or (get_or ms n 0) (1 * 2 ^ (x % 64) % 2 ^ 64)) ≡ mark ms index
  unfolding mark set_bit
  united = rw (word, place, shl_exact {a = 1} 1 (x % 64) 64 (lit< tt) (omega arith), one-mul)

  past : length ws ≡ size shape → length ws ≤ n → Ran (pixel shape x y) ws ms false ms
  unfolding pixel
  past full h = ran_else _ _ (le-ltb _ _ (rw (e, full) at h)) (ran_done false)

  stored : length ws ≡ size shape → n < length ws
      → Ran (pixel shape x y) ws ms
      (not (eqb (bit_and (get_or ws n 0 / 2 ^ (x % 64)) 1) 0))
      (set ms n (bit_or (get_or ms n 0) (1 * 2 ^ (x % 64) % 2 ^ 64)))
  unfolding pixel index
  stored full h = rw (tested, united) (ran_then _ _ (lt-ltb _ _ (rw (e, full) at h)) (ran_read index))

pub returns-then-offset-self : goal.returns-then-offset-self
returns-then-offset-self c = record { kept = kept_same; ran = search past }

pub returns : goal.returns
returns c = record { kept = record { words = refl; shape = refl; lent = refl }; ran = search stored }
