-- `detector_cells::read_bits` meets its contract: by cases on the enclosing rectangle.
use Rattle.std.specs.Prelude.{ℕ, Option, Some, None, Result, Ok, Err, refl}
use Rattle.std.specs.Result.{IsErrAnd}
use Rattle.std.proofs.Common.{List, ◌≡◌, sym, ap, ◌∙◌}
use Rattle.bit_matrix.specs.declared.Shape.{Shape}
use Rattle.bit_matrix_rectangle.specs.declared.Rectangle.{Rectangle}
use Rattle.bit_matrix_rectangle.specs.Rectangle.{black_at, if_black, enclosing_rectangle}
use Rattle.bit_matrix_rectangle.specs.RectangleClauses.{Within}
use Rattle.bit_matrix_rectangle.specs.RectangleLaws.{rectangle_within}
use Rattle.detector_cells.specs.declared.Blank.{Blank}
use Rattle.detector_cells.specs.Cells.{cells_of, cells_run, read_answer, read_bits}
use Rattle.detector_cells.proofs.read_bits.Goals as goal

module _ (shape : Shape) (words cells : List ℕ) {e : Option Rectangle} (is : e ≡ enclosing_rectangle (black_at shape words) shape.width shape.height) where
  blank : e ≡ None → cells_run 10 cells ≡ read_bits shape words cells
  unfolding read_bits
  blank none = ap (if_black (cells_run 10 cells) λ r. cells_run 0 (cells_of (black_at shape words) r)) (sym none ∙ is)

  module _ {r : Rectangle} (some : e ≡ Some r) where
    within : Within shape.width shape.height r
    within = rectangle_within (black_at shape words) shape.width shape.height (sym some ∙ is)

    black : {left : List ℕ} → left ≡ cells_of (black_at shape words) r → cells_run 0 left ≡ read_bits shape words cells
    unfolding read_bits
    black read = ap (cells_run 0) read ∙ ap (if_black (cells_run 10 cells) λ r. cells_run 0 (cells_of (black_at shape words) r)) (sym some ∙ is)

-- the answer that `?` passes on
carried : (r : Result (Unit {0}) Blank) (blank : Blank) → IsErrAnd r (λ b. b ≡ blank) → read_answer r ≡ 10
carried (Ok done) blank is = absurd is
carried (Err b) blank is = refl

pub returns-in_err-rectangle : goal.returns-in_err-rectangle
returns-in_err-rectangle c =
    ap (λ (n : ℕ). cells_run n c.args.cells.now) (carried c.from_residual.result c.in_err-rectangle.field-0.0 c.from_residual.ensures.1)
    ∙ blank _ _ _ c.get_enclosing_rectangle.ensures c.in_err-rectangle.ensures.ok_part

pub read_rows-requires : goal.read_rows-requires
read_rows-requires c = (within _ _ c.args.cells.now c.get_enclosing_rectangle.ensures c.in_ok-rectangle.ensures.ok_part, c.requires.1)

pub returns : goal.returns
returns c = black _ _ c.args.cells.now c.get_enclosing_rectangle.ensures c.in_ok-rectangle.ensures.ok_part c.read_rows.ensures
