-- `bit_matrix_area::try_get_area` meets its contract: the area is taken by words where they hold it, and by pixels elsewhere; past the width or height
-- nothing is read.
use Rattle.std.proofs.Common.{ℕ, ◌+◌, ◌-◌, ◌<◌, List, inl, inr, ◌≡◌, arith, length}
use Rattle.bit_matrix.specs.declared.Shape.{Shape}
use Rattle.bit_matrix.specs.ShapeClauses.{Image, Inside}
use Rattle.bit_matrix.specs.Pixels.{offset}
use Rattle.bit_matrix.specs.PixelsLaws.{inside_stored}
use Rattle.bit_matrix.proofs.ImageLaws.{kept_same}
use Rattle.bit_matrix_nine.specs.AreaWords.{InWords}
use Rattle.bit_matrix_area.proofs.AreaLaws.{area_outside}
use Rattle.bit_matrix_area.proofs.NineLaws.{area_in_words}
use Rattle.bit_matrix_area.proofs.try_get_area.Goals as goal
use Rattle.bit_matrix_area.proofs.try_get_area.Goals.{then-x-image-via-then-x-image, then-x-image-via-else-x-image+then-y-image}

last_row : {shape : Shape} {x y : ℕ} {words marks : List ℕ} → Image shape words marks → InWords shape x y → offset shape (x - 1) (y - 1 + 2) < length words
last_row {shape} {x} {y} image inside =
    let same : y - 1 + 2 ≡ y + 1 = omega (arith, inside.top) in
    let below : Inside shape (x - 1) (y + 1) = record { column = omega (arith, inside.right); row = inside.bottom } in
    rw (same, image.stored) (inside_stored image.limits (x - 1) (y + 1) below)

pub half_of_nine-requires : goal.half_of_nine-requires
half_of_nine-requires c =
    let inside = c.in_words.ensures c.if-in_words.true in
    (inside.place, last_row c.args.image.now.is_image inside)

pub returns-then-in_words : goal.returns-then-in_words
returns-then-in_words c =
    let inside = c.in_words.ensures c.if-in_words.true in
    let image = c.args.image.now.is_image in
    record { kept = c.half_of_nine.ensures.kept; ran = area_in_words _ _ image.stored inside image.sized c.half_of_nine.ensures.half }

pub returns-then-x-image : goal.returns-then-x-image
returns-then-x-image c = record {
  kept = kept_same;
  ran = area_outside _ _ _ (elim c.then-x-image.branch [
    | then-x-image-via-then-x-image w ↦ inl w.if-x-image.true
    | then-x-image-via-else-x-image+then-y-image w ↦ inr w.if-y-image.true
  ]);
}
