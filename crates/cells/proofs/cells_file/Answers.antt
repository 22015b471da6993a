-- `cells::cells_file` meets its contract: one lemma for each return.
use Rattle.std.specs.Prelude.{ℕ, cond, ◌||◌, List, Result, Ok, ◌≡◌, refl, length}
use Rattle.std.proofs.Common.{sym, ap, ap₂, ◌∙◌, eqb-true}
use Rattle.std.proofs.Math.Path.{subst⁻¹}
use Rattle.std.proofs.lemmas.Bool.{not-false}
use Rattle.bit_matrix.specs.declared.Shape.{Shape}
use Rattle.bit_matrix.specs.Shape.{size}
use Rattle.crop_sizes.specs.declared.Refusal.{Refusal}
use Rattle.crop_sizes.specs.Refusals.{number_some}
use Rattle.crop_sizes.specs.Sizes.{least_side, misfit}
use Rattle.crop_sizes.specs.SizesLaws.{chain_past}
use Rattle.crop_rows.specs.Unpack.{unpacked}
use Rattle.crop_rows.specs.UnpackClauses.{FileAccepted}
use Rattle.crop_rows.specs.UnpackLaws.{length_unpacked, unpacked_clean}
use Rattle.crop.specs.Crop.{file_shape, file_words, file_kind, width, height, image}
use Rattle.crop.specs.CropClauses.{Checks, or_lent, or_six}
use Rattle.crop.specs.CropLaws.{
  is_refused,
  is_accepted,
  six_kept,
  six_next,
  six_both,
  refusal_six,
  checked_shape,
  checked_accepted,
  unpack_refusal_by,
}
use Rattle.bit_matrix_rectangle.specs.RectangleClauses.{ImageAccepted}
use Rattle.detector_points.specs.Orientation.{matrix_height}
use Rattle.detector_cells.specs.Cells.{CellsRun, cells_run, read_bits}
use Rattle.cells.specs.declared.Unread.TheVariants.{Refused, Blank}
use Rattle.cells.specs.Entries.{file_cells_refusal, filed_cells, file_cells}
use Rattle.cells.specs.EntriesLaws.{cells_carried}
use Rattle.cells.proofs.cells_file.Goals as goal

module _ (file words cells : List ℕ) {c : Result Shape Refusal} (checks : Checks file c) {lent : ℕ}
    (image_is : lent ≡ or_lent c (λ s. misfit (length words) (size s))) where
  module _ {answer : ℕ} (is : answer ≡ or_six lent (misfit (length cells) matrix_height)) where
    number_is : answer ≡ file_cells_refusal file (length words) (length cells)
    number_is =
        let unfit = misfit (length words) (file_words file) in
        is
        ∙ ap (λ (n : ℕ). or_six n (misfit (length cells) matrix_height))
        (unpack_refusal_by checks (length words) image_is ∙ refusal_six file_kind least_side file unfit)
        ∙ six_both _ unfit _ ∙ sym (refusal_six file_kind least_side file (unfit || misfit (length cells) matrix_height))

    refused : (answer ≡ 0 → ⊥) → {r : ℕ} → r ≡ answer → filed_cells words (cells_run r cells) ≡ file_cells file words cells
    unfolding file_cells
    refused some e = ap (λ (n : ℕ). filed_cells words (cells_run n cells)) (e ∙ number_is) ∙ is_refused _ _ λ zero. some (number_is ∙ zero)

  module _ (none : lent ≡ 0) (room : ◌≡◌ {A = ℕ} 0 (cond (misfit (length cells) matrix_height) 6 0)) {shape : Shape} (ok : c ≡ Ok shape) where
    accepted : FileAccepted shape file × (length words ≡ size shape)
    accepted =
        let unfit = image_is ∙ ap (λ (x : Result Shape Refusal). or_lent x λ s. misfit (length words) (size s)) ok in
        (checked_accepted checks ok, eqb-true _ _ (not-false _ (chain_past _ 5 _ (sym unfit ∙ none)).0))

    cells_fitting : length cells ≡ matrix_height
    cells_fitting = eqb-true _ _ (not-false _ (chain_past _ 5 _ (sym room)).0)

    module _ {words' : List ℕ} (stored : words' ≡ unpacked file shape) where
      shape_is : shape ≡ file_shape file
      shape_is = checked_shape checks ok

      image_accepted : ImageAccepted shape words' × (length cells ≡ matrix_height)
      image_accepted = (rw stored (subst⁻¹ (λ (s : Shape). ImageAccepted s (unpacked file s)) shape_is made), cells_fitting)
        where
          made : ImageAccepted (file_shape file) (image file)
          made = record {
            limits = rw (← shape_is) accepted.0.limits;
            stored = length_unpacked file (file_shape file);
            clean = unpacked_clean file (width file) (height file);
          }

      read : {left : CellsRun} → left ≡ read_bits shape words' cells → filed_cells words' left ≡ file_cells file words cells
      unfolding file_cells
      read gave =
          let words_are : words' ≡ image file = stored ∙ ap (unpacked file) shape_is in
          ap₂ filed_cells words_are (gave ∙ ap₂ (λ (s : Shape) (l : List ℕ). read_bits s l cells) shape_is words_are)
          ∙ is_accepted _ _ (sym (number_is (six_next _ none room)))

pub returns-in_err-shape : goal.returns-in_err-shape
returns-in_err-shape c =
    let some = number_some c.in_err-shape.field-0.0 in
    refused c.args.file.now c.args.words.now c.args.cells.now c.check_file.ensures c.in_err-shape.ensures.answer (six_kept _ some) some
    (cells_carried c.from_residual.result (Refused c.in_err-shape.field-0.0) c.from_residual.ensures.1)

pub returns-in_err-cells_room : goal.returns-in_err-cells_room
returns-in_err-cells_room c =
    refused c.args.file.now c.args.words.now c.args.cells.now c.check_file.ensures c.in_ok-shape.ensures.answer
    (six_next _ refl c.in_err-cells_room.ensures) (number_some c.in_err-cells_room.field-0.0)
    (cells_carried c.from_residual-in_err-cells_room.result (Refused c.in_err-cells_room.field-0.0) c.from_residual-in_err-cells_room.ensures.1)

pub unpack_rows-requires : goal.unpack_rows-requires
unpack_rows-requires c =
    accepted c.args.file.now c.args.words.now c.args.cells.now c.check_file.ensures c.in_ok-shape.ensures.answer refl c.in_ok-cells_room.ensures
    c.in_ok-shape.ensures.shape

pub invariant_of-read_bits : goal.invariant_of-read_bits
invariant_of-read_bits c =
    let image =
    image_accepted c.args.file.now c.args.words.now c.args.cells.now c.check_file.ensures c.in_ok-shape.ensures.answer refl c.in_ok-cells_room.ensures
    c.in_ok-shape.ensures.shape c.unpack_rows.ensures in
    record { limits = image.0.limits; stored = image.0.stored }

pub read_bits-requires : goal.read_bits-requires
read_bits-requires c =
    image_accepted c.args.file.now c.args.words.now c.args.cells.now c.check_file.ensures c.in_ok-shape.ensures.answer refl c.in_ok-cells_room.ensures
    c.in_ok-shape.ensures.shape c.unpack_rows.ensures

pub returns-in_err-read_bits : goal.returns-in_err-read_bits
returns-in_err-read_bits c =
    ap (λ (n : ℕ). filed_cells c.unpack_rows.new.words (cells_run n c.read_bits.new.cells))
    (cells_carried c.from_residual-in_err-read_bits.result Blank c.from_residual-in_err-read_bits.ensures.1)
    ∙ read c.args.file.now c.args.words.now c.args.cells.now c.check_file.ensures c.in_ok-shape.ensures.answer refl c.in_ok-cells_room.ensures
    c.in_ok-shape.ensures.shape c.unpack_rows.ensures c.in_err-read_bits.ensures

pub returns : goal.returns
returns c =
    read c.args.file.now c.args.words.now c.args.cells.now c.check_file.ensures c.in_ok-shape.ensures.answer refl c.in_ok-cells_room.ensures
    c.in_ok-shape.ensures.shape c.unpack_rows.ensures c.in_ok-read_bits.ensures
