-- What the clauses of functions name: a file that was checked, and what holds where there is no number. Assumes nothing.
use Rattle.std.specs.Prelude.{ℕ, ◌≤◌, Bool, true, false, cond, List, Result, Ok, Err, IfOk, ◌≡◌, eqb, length}
use Rattle.bit_matrix.specs.declared.Shape.{Shape}
use Rattle.bit_matrix.specs.ShapeClauses.{Image}
use Rattle.crop_sizes.specs.declared.Refusal.{Refusal}
use Rattle.crop_sizes.specs.Refusals.{number_of, answer_of}
use Rattle.crop_padding.specs.Padding.{words_padded}
use Rattle.crop_rows.specs.UnpackClauses.{FileAccepted}
use Rattle.crop.specs.Crop.{file_shape, bad_header, file_kind, refusal}

-- what a file's header gives: number 1, or its image's shape
abbrev pub HeadedBy : List ℕ → Result Shape Refusal → Type 0
HeadedBy file (Ok shape) = (bad_header file_kind file ≡ false) × (shape ≡ file_shape file)
HeadedBy file (Err refusal) = (bad_header file_kind file ≡ true) × (number_of refusal ≡ 1)

-- what the check of a file gives: its number, or its image's shape
pub record Checks (file : List ℕ) (r : Result Shape Refusal) : Type 0 where
  pub answer : answer_of r ≡ refusal file
  pub shape : IfOk r (λ shape. shape ≡ file_shape file)

-- the number of a file that was checked, or where it has none the number 6 of what is lent for its image
abbrev pub or_lent : Result Shape Refusal → (Shape → Bool) → ℕ
or_lent (Ok shape) unfit = cond (unfit shape) 6 0
or_lent (Err refusal) unfit = number_of refusal

-- a number, or where it is 0 the number 6 of what is lent
unfoldable pub or_six : ℕ → Bool → ℕ
or_six number unfit = cond (eqb number 0) (cond unfit 6 0) number

-- what holds of an image in words, with the marks and the record buffer, where there is no number
pub record WordsAccepted (shape : Shape) (words marks records : List ℕ) : Type 0 where
  pub image : Image shape words marks
  pub clean : words_padded words shape.width shape.height ≡ false
  pub room : 40 ≤ length records

-- and of a file with an image of this shape, with the words to unpack into, the marks and the record buffer
pub record FileReady (shape : Shape) (file words marks records : List ℕ) : Type 0 where
  pub accepted : FileAccepted shape file
  pub image : Image shape words marks
  pub room : 40 ≤ length records
