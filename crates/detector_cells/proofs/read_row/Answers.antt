-- `detector_cells::read_row` meets its contract.
use Rattle.std.proofs.Common.{ℕ, ◌+◌, ◌*◌, ◌-◌, ◌/◌, ◌%◌, ◌^◌, ◌<◌, min, add-one, arith, Bool, List, ◌≡◌, refl, ap, ap₂, ◌∙◌, bit_or, shl_exact}
use lib.Bits.{or_shifted_r}
use Rattle.reads.specs.Bits.{digit}
use Rattle.reads.proofs.BitsLaws.{digit_low}
use Rattle.bit_matrix.specs.declared.Shape.{Shape}
use Rattle.bit_matrix.specs.ShapeClauses.{Limits, Inside}
use Rattle.crop_padding.specs.Below.{number}
use Rattle.crop_padding.specs.NumberLaws.{number_lt}
use Rattle.detector_points.specs.Orientation.{pixel_row}
use Rattle.bit_matrix_rectangle.specs.declared.Rectangle.{Rectangle}
use Rattle.bit_matrix_rectangle.specs.Rectangle.{black_at}
use Rattle.bit_matrix_rectangle.specs.RectangleClauses.{Within}
use Rattle.detector_cells.specs.Cells.{cell}
use Rattle.detector_cells.specs.CellsLaws.{cell_inside}
use Rattle.detector_cells.proofs.read_row.Goals as goal

-- one bit more
more : (p : ℕ → Bool) (x : ℕ) {cells : ℕ} {b : Bool} → x < 30 → cells ≡ number p x → b ≡ p x → bit_or cells (digit b * 2 ^ x % 2 ^ 32) ≡ number p (x + 1)
unfolding number
more p x {cells} {b} h so_far is =
    let low : cells < 2 ^ x = rw so_far (number_lt p x) in
    let small : digit b < 2 ^ 1 = omega (arith, digit_low b) in
    rw add-one
    (ap (bit_or cells) (shl_exact {a = digit b} 1 x 32 small (omega arith)) ∙ or_shifted_r (digit b) x cells low
    ∙ ap₂ (λ (c : Bool) (n : ℕ). digit c * 2 ^ x + n) is so_far)

-- the products are small
module _ {shape : Shape} (limits : Limits shape) (r : Rectangle) (within : Within shape.width shape.height r) where
  -- where cell x of row y lies, as it was worked out
  module _ (x y : ℕ) {l iy : ℕ} (column : l ≡ min ((x * r.width + r.width / 2 + y % 2 * r.width / 2) / 30) (r.width - 1))
      (row : iy ≡ pixel_row y r.top r.height) where
    cell_at : Inside shape (r.left + l) iy
    cell_at =
        let inside = cell_inside r within x y in
        record { column = rw column inside.0; row = rw row inside.1 }

    cell_is : (words : List ℕ) {b : Bool} → b ≡ black_at shape words (r.left + l) iy → b ≡ cell (black_at shape words) r x y
    cell_is words e = e ∙ ap₂ (λ (i j : ℕ). black_at shape words (r.left + i) j) column row

pub loop-x-init : goal.loop-x-init
unfolding number
loop-x-init c = refl

pub loop-x-preserved : goal.loop-x-preserved
loop-x-preserved c =
    let x = c.loop-x.x in
    let is = cell_is c.args.image.now.limits c.args.rectangle c.requires.0 x c.args.y c.min.ensures c.min-iy.ensures
    c.args.image.now.words.now c.get.ensures in
    let cells : ℕ → Bool = λ i. cell (black_at c.args.image.now.shape c.args.image.now.words.now) c.args.rectangle i c.args.y in
    rw c.from.ensures (more cells x (omega arith) c.loop-x.invariant is)

pub returns : goal.returns
returns c =
    let a = c.args in
    let all : c.loop-x.x ≡ 30 = omega arith in
    c.loop-x.invariant ∙ ap (number λ i. cell (black_at a.image.now.shape a.image.now.words.now) a.rectangle i a.y) all
