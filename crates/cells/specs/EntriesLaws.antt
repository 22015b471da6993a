-- A call that is not refused reads the cells of its image. So by `cells_agree` two such calls that are lent the same for the cells, each of a file or of
-- words, agree where their images have one shape and the same pixels; with answer 0 whatever was lent, by `lent_without_part`. Assumes nothing.
use Rattle.std.specs.Prelude.{ℕ, List, Result, Ok, Err, ◌≡◌, length}
use Rattle.std.specs.Result.{IsErrAnd}
use Rattle.std.proofs.Common.{sym, ap}
use Rattle.bit_matrix.specs.Shape.{shape_of}
use Rattle.crop.specs.Crop.{file_shape, image}
use Rattle.crop.specs.CropLaws.{is_accepted}
use Rattle.detector_cells.specs.Cells.{read_bits}
use Rattle.cells.specs.declared.Unread.{Unread}
use Rattle.cells.specs.Entries.{unread_number, cells_answer, words_cells_refusal, file_cells_refusal, words_cells, FileCellsRun, file_cells}

pub words_cells_read : (words : List ℕ) (w h : ℕ) (cells : List ℕ) → words_cells_refusal words w h (length cells) ≡ 0
    → words_cells words w h cells ≡ read_bits (shape_of w h) words cells
unfolding words_cells
words_cells_read words w h cells passes = sym (is_accepted _ _ passes)

pub file_cells_read : (file words cells : List ℕ) → file_cells_refusal file (length words) (length cells) ≡ 0
    → (file_cells file words cells).run ≡ read_bits (file_shape file) (image file) cells
unfolding file_cells
file_cells_read file words cells passes = ap (λ (r : FileCellsRun). r.run) (sym (is_accepted _ _ passes))

-- the answer that `?` passes on
pub cells_carried : (r : Result (Unit {0}) Unread) (unread : Unread) → IsErrAnd r (λ e. e ≡ unread) → cells_answer r ≡ unread_number unread
cells_carried (Ok done) unread is = absurd is
cells_carried (Err e) unread is = ap unread_number is
