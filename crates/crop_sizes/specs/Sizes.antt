-- The length of a crop file, and the number that refuses an image: docs/MANUAL.md, "The crop file" and "Answers". Here w and h are an image's width and
-- height. Assumes nothing.
use Rattle.std.specs.Prelude.{ℕ, ◌+◌, ◌*◌, ◌/◌, Bool, not, cond, ◌||◌, ltb, eqb}
use Rattle.bit_matrix.specs.declared.Shape.{Shape}
use Rattle.bit_matrix.specs.Shape.{size}

-- a row's bytes in a file: ceil(w / 8)
abbrev pub row_bytes : ℕ → ℕ
row_bytes w = (w + 7) / 8

-- the bytes of a whole file
abbrev pub file_length : ℕ → ℕ → ℕ
file_length w h = 4 + row_bytes w * h

-- the least side of an image
abbrev pub least_side : ℕ
least_side = 33

-- a side outside the least one to 2,048
abbrev pub outside : ℕ → ℕ → Bool
outside least n = ltb n least || ltb 2048 n

-- a length other than the one needed
abbrev pub misfit : ℕ → ℕ → Bool
misfit n needed = not (eqb n needed)

-- of an image, in a file or in words, the first number whose condition holds, or 0. 2: a side outside the least one to 2,048; 3: more than
-- 8,000 words; 4: the length given is not the one needed; 5: a padding bit is 1; 6: what is lent does not fit
unfoldable pub image_refusal : ℕ → Shape → ℕ → ℕ → Bool → Bool → ℕ
image_refusal least shape given needed padded unfit =
    cond (outside least shape.width || outside least shape.height) 2
    (cond (ltb 8000 (size shape)) 3
    (cond (misfit given needed) 4
    (cond padded 5
    (cond unfit 6 0))))
