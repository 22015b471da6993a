-- The pixels of an image, by its shape. Assumes nothing.
use Rattle.std.specs.Prelude.{ℕ, ◌+◌, ◌*◌, ◌/◌, ◌%◌, Bool, false, cond, ltb, leb, Option, None, Some}
use Rattle.reads.specs.Reads.{Reads, done, read, ◌>>=◌}
use Rattle.bit_matrix.specs.declared.Shape.{Shape}
use Rattle.bit_matrix.specs.Shape.{size}

-- `get_offset`: the word that holds column x of row y
abbrev pub offset : Shape → ℕ → ℕ → ℕ
offset shape x y = y * shape.row_words + x / 64

-- `get`: where a word of the image holds the pixel, that bit is read, be it padding or of the next row; elsewhere the pixel is white, unread
unfoldable pub pixel : Shape → ℕ → ℕ → Reads Bool
pixel shape x y = cond (ltb (offset shape x y) (size shape)) (read (offset shape x y * 64 + x % 64) done) (done false)

-- `check_in_bounds`: true when the pixel lies past the last word
abbrev pub out_of_range : Shape → ℕ → ℕ → Bool
out_of_range shape x y = leb (size shape) (offset shape x y)

-- `try_get`: none outside the width or height, with nothing read. The source's other none, for an offset past the last word, no image reaches
-- (`inside_stored`).
unfoldable pub try_get : Shape → ℕ → ℕ → Reads (Option Bool)
try_get shape x y =
    cond (ltb x shape.width)
    (cond (ltb y shape.height)
    (do
      black ← pixel shape x y
      done (Some black))
    (done None))
    (done None)
