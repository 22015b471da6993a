-- What holds of pixels: their flat index, and two tests of the Rust that no image within the limits reaches. Assumes nothing.
use Rattle.std.specs.Prelude.{ℕ, suc, ◌+◌, ◌*◌, ◌%◌, ◌≤◌, ◌<◌, ◌≡◌, false, List, None, ◌⊎◌, length}
use Rattle.std.proofs.Math.Decide.{dec_lt}
use Rattle.std.proofs.Math.Nat.{mul-le-mul}
use Rattle.std.proofs.Common.{arith, inl, inr, lt-ltb, le-ltb}
use Rattle.reads.specs.Reads.{done}
use Rattle.reads.specs.Bits.{bit_at, mark}
use Rattle.reads.proofs.BitsLaws.{bit_past, mark_past}
use Rattle.reads.specs.RunsClauses.{Ran}
use Rattle.reads.proofs.RunsLaws.{ran_done, ran_read, ran_then, ran_else}
use Rattle.bit_matrix.specs.declared.Shape.{Shape}
use Rattle.bit_matrix.specs.Shape.{size}
use Rattle.bit_matrix.specs.ShapeClauses.{Limits, Inside}
use Rattle.bit_matrix.specs.Pixels.{offset, pixel, try_get}

-- ---- one pixel's run

-- by its flat index, stored or not: past the last word it is white, and a mark there changes nothing
pub ran_pixel : (words marks : List ℕ) (shape : Shape) (x y : ℕ) → length words ≡ size shape → length marks ≡ length words
    → Ran (pixel shape x y) words marks (bit_at words (y * shape.row_words * 64 + x)) (mark marks (y * shape.row_words * 64 + x))
unfolding pixel
ran_pixel words marks shape x y stored sized = go (dec_lt (offset shape x y) (size shape))
  where
    flat : offset shape x y * 64 + x % 64 ≡ y * shape.row_words * 64 + x
    flat = omega arith

    go : Dec (offset shape x y < size shape)
        → Ran (pixel shape x y) words marks (bit_at words (y * shape.row_words * 64 + x)) (mark marks (y * shape.row_words * 64 + x))
    go (yes h) = ran_then _ _ (lt-ltb _ _ h) (rw flat (ran_read (y * shape.row_words * 64 + x)))
    go (no h) =
        let past : size shape ≤ offset shape x y = omega arith in
        rw (bit_past words (y * shape.row_words * 64 + x) (omega arith), mark_past marks (y * shape.row_words * 64 + x) (omega arith))
        (ran_else _ _ (le-ltb _ _ past) (ran_done _))

-- outside the width or height
pub ran_outside : {words marks : List ℕ} (shape : Shape) (x y : ℕ) → (shape.width ≤ x) ⊎ (shape.height ≤ y) → Ran (try_get shape x y) words marks None marks
unfolding try_get
ran_outside shape x y (inl h) = ran_else _ _ (le-ltb x shape.width h) (ran_done _)
ran_outside {words} {marks} shape x y (inr h) = go (dec_lt x shape.width)
  where
    go : Dec (x < shape.width) → Ran (try_get shape x y) words marks None marks
    go (yes l) = ran_then _ _ (lt-ltb x shape.width l) (ran_else _ _ (le-ltb y shape.height h) (ran_done _))
    go (no l) = ran_else _ _ (le-ltb x shape.width (omega arith)) (ran_done _)

-- ---- within the limits

module _ {shape : Shape} (limits : Limits shape) (x y : ℕ) where
  -- `try_get` tests the offset after the width and height: it never lies past the last word
  pub inside_stored : Inside shape x y → offset shape x y < size shape
  inside_stored inside =
      let rows : suc y * shape.row_words ≤ shape.height * shape.row_words = mul-le-mul {m₂ = shape.row_words} (omega (arith, inside.row))
      (omega arith) in
      omega (arith, rows, limits.rows, inside.column)

  -- `get` tests x ≥ width and y ≥ height after the offset: in those rows every pixel lies past the last word
  pub below_unread : shape.height ≤ y → pixel shape x y ≡ done false
  unfolding pixel
  below_unread row =
      let rows : shape.height * shape.row_words ≤ y * shape.row_words = mul-le-mul {m₂ = shape.row_words} row (omega arith) in
      let past : size shape ≤ offset shape x y = omega (arith, rows) in
      rw (le-ltb (offset shape x y) (size shape) past)
