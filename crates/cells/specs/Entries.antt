-- What the entries that read cells answer and leave in the lent buffers, for every input: docs/MANUAL.md, "The cells of a symbol". An accepted image is read
-- by `read_bits`. Nothing is marked: the whole image counts as read. Definitions only. Assumes nothing.
use Rattle.std.specs.Prelude.{ℕ, ◌||◌, List, Result, Ok, Err, length}
use Rattle.bit_matrix.specs.Shape.{shape_of}
use Rattle.crop_sizes.specs.Sizes.{least_side, misfit}
use Rattle.crop_sizes.specs.Refusals.{number_of}
use Rattle.crop.specs.Crop.{file_shape, file_words, image, file_kind, refusal_of, words_refusal_of, refused_or}
use Rattle.detector_points.specs.Orientation.{matrix_height}
use Rattle.detector_cells.specs.Cells.{CellsRun, cells_run, read_bits}
use Rattle.cells.specs.declared.Unread.{Unread}
use Rattle.cells.specs.declared.Unread.TheVariants.{Refused, Blank}

-- the number of what keeps cells from being read, and the answer of an entry
abbrev pub unread_number : Unread → ℕ
unread_number (Refused refusal) = number_of refusal
unread_number Blank = 10

abbrev pub cells_answer : Result (Unit {0}) Unread → ℕ
cells_answer (Ok done) = 0
cells_answer (Err unread) = unread_number unread

-- the number that refuses: of an image in words, with the length of the cells; and of a file, with the lengths of the words to unpack into and of the cells
abbrev pub words_cells_refusal : List ℕ → ℕ → ℕ → ℕ → ℕ
words_cells_refusal words w h cells = words_refusal_of words w h (misfit cells matrix_height)

abbrev pub file_cells_refusal : List ℕ → ℕ → ℕ → ℕ
file_cells_refusal file words cells = refusal_of file_kind least_side file (misfit words (file_words file) || misfit cells matrix_height)

-- an image in words: a refusal changes no buffer
unfoldable pub words_cells : List ℕ → ℕ → ℕ → List ℕ → CellsRun
words_cells words w h cells = refused_or (words_cells_refusal words w h (length cells)) (λ n. cells_run n cells) (read_bits (shape_of w h) words cells)

-- the same with the words to unpack into
pub record FileCellsRun : Type 0 where
  pub words : List ℕ
  pub run : CellsRun

abbrev pub filed_cells : List ℕ → CellsRun → FileCellsRun
filed_cells words r = record { words = words; run = r }

-- a crop file: its words are unpacked when it is accepted, also where no pixel is black
unfoldable pub file_cells : List ℕ → List ℕ → List ℕ → FileCellsRun
file_cells file words cells =
    refused_or (file_cells_refusal file (length words) (length cells)) (λ n. filed_cells words (cells_run n cells))
    (filed_cells (image file) (read_bits (file_shape file) (image file) cells))
