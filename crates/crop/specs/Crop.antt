-- Crop files, images in words, and the number that refuses one: docs/MANUAL.md, "The crop file" and "Answers". Here w and h are an image's width and
-- height. Assumes nothing.
use Rattle.std.specs.Prelude.{ℕ, ◌+◌, ◌*◌, ◌/◌, ◌%◌, ◌^◌, Bool, false, not, cond, ◌||◌, List, ◌≡◌, ltb, eqb, length, get_or}
use Rattle.bit_matrix.specs.declared.Shape.{Shape}
use Rattle.bit_matrix.specs.Shape.{shape_of, size}
use Rattle.crop_sizes.specs.Sizes.{file_length, least_side, misfit, image_refusal}
use Rattle.crop_padding.specs.Padding.{file_padded, words_padded}
use Rattle.crop_rows.specs.Unpack.{unpacked}

-- ---- a file

-- the first 32 bits as one number, most significant bit first: kind, 4 bits; width, 12; height, 12; the last 4
unfoldable pub header : List ℕ → ℕ
header file = ((get_or file 0 0 * 256 + get_or file 1 0) * 256 + get_or file 2 0) * 256 + get_or file 3 0

abbrev pub width : List ℕ → ℕ
width file = header file / 2 ^ 16 % 2 ^ 12

abbrev pub height : List ℕ → ℕ
height file = header file / 2 ^ 4 % 2 ^ 12

-- the shape of its image, and the words
abbrev pub file_shape : List ℕ → Shape
file_shape file = shape_of (width file) (height file)

abbrev pub file_words : List ℕ → ℕ
file_words file = size (file_shape file)

-- all words of the file, by its header
abbrev pub image : List ℕ → List ℕ
image file = unpacked file (file_shape file)

-- ---- the first number whose condition holds, or 0

-- 1: under 4 bytes, another kind than k, or last header bits that are not zero
abbrev pub bad_header : ℕ → List ℕ → Bool
bad_header k file = ltb (length file) 4 || not (eqb (header file / 2 ^ 28) k) || not (eqb (header file % 2 ^ 4) 0)

-- of a file of kind k with these least sides, where what is lent does not fit or does
unfoldable pub refusal_of : ℕ → ℕ → List ℕ → Bool → ℕ
refusal_of k least file unfit =
    let w : ℕ = width file in
    let h : ℕ = height file in
    cond (bad_header k file) 1 (image_refusal least (shape_of w h) (length file) (file_length w h) (file_padded file w h) unfit)

-- the entries take files of kind 1
abbrev pub file_kind : ℕ
file_kind = 1

-- marks that differ in length from the image's words, or a record buffer of under 40 words
abbrev pub no_room : ℕ → ℕ → ℕ → Bool
no_room needed marks records = misfit marks needed || ltb records 40

-- of a file; with the length of the words to unpack into; and with those of the marks and of the record buffer too
abbrev pub refusal : List ℕ → ℕ
refusal file = refusal_of file_kind least_side file false

abbrev pub unpack_refusal : List ℕ → ℕ → ℕ
unpack_refusal file words = refusal_of file_kind least_side file (misfit words (file_words file))

abbrev pub file_refusal : List ℕ → ℕ → ℕ → ℕ → ℕ
file_refusal file words marks records = refusal_of file_kind least_side file (misfit words (file_words file) || no_room (file_words file) marks records)

-- of an image in words, where what is lent does not fit or does; and with the lengths of the marks and of the record buffer
unfoldable pub words_refusal_of : List ℕ → ℕ → ℕ → Bool → ℕ
words_refusal_of words w h unfit = image_refusal least_side (shape_of w h) (length words) (size (shape_of w h)) (words_padded words w h) unfit

abbrev pub words_refusal : List ℕ → ℕ → ℕ → ℕ → ℕ → ℕ
words_refusal words w h marks records = words_refusal_of words w h (no_room (size (shape_of w h)) marks records)

-- what an entry comes to: what a refusal with this number gives, or where the number is 0 what follows from the accepted image
unfoldable pub refused_or : {A : Type 0} → ℕ → (ℕ → A) → A → A
refused_or number refused accepted = cond (eqb number 0) accepted (refused number)

-- ---- what `unpack` leaves

-- the answer r, and the lent words afterwards: those of the image when the answer is 0, else as they were
pub record Unpacks (file words : List ℕ) (r : ℕ) (after : List ℕ) : Type 0 where
  pub answer : r ≡ unpack_refusal file (length words)
  pub stored : after ≡ cond (eqb r 0) (image file) words
