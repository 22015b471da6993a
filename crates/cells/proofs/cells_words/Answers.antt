-- `cells::cells_words` meets its contract: one lemma for each return.
use Rattle.std.specs.Prelude.{ℕ, false, cond, List, ◌≡◌, refl, length}
use Rattle.std.proofs.Common.{sym, ap, ◌∙◌, eqb-true}
use Rattle.std.proofs.lemmas.Bool.{not-false}
use Rattle.bit_matrix.specs.declared.Shape.{Shape}
use Rattle.bit_matrix.specs.Shape.{shape_of}
use Rattle.crop_sizes.specs.Refusals.{number_some}
use Rattle.crop_sizes.specs.Sizes.{misfit}
use Rattle.crop.specs.Crop.{words_refusal_of}
use Rattle.crop.specs.CropClauses.{or_six}
use Rattle.crop.specs.CropLaws.{is_refused, six_kept, six_next, words_within, words_six}
use Rattle.bit_matrix_rectangle.specs.RectangleClauses.{ImageAccepted}
use Rattle.detector_points.specs.Orientation.{matrix_height}
use Rattle.detector_cells.specs.Cells.{CellsRun, cells_run, read_bits}
use Rattle.cells.specs.declared.Unread.TheVariants.{Refused, Blank}
use Rattle.cells.specs.Entries.{words_cells_refusal, words_cells}
use Rattle.cells.specs.EntriesLaws.{words_cells_read, cells_carried}
use Rattle.cells.proofs.cells_words.Goals as goal

module _ (words : List ℕ) (w h : ℕ) (cells : List ℕ) {checked : ℕ} (image : checked ≡ words_refusal_of words w h false) where
  module _ {answer : ℕ} (is : answer ≡ or_six checked (misfit (length cells) matrix_height)) where
    number_is : answer ≡ words_cells_refusal words w h (length cells)
    number_is = is ∙ ap (λ (n : ℕ). or_six n (misfit (length cells) matrix_height)) image ∙ sym (words_six words w h _)

    refused : (answer ≡ 0 → ⊥) → {r : ℕ} → r ≡ answer → cells_run r cells ≡ words_cells words w h cells
    unfolding words_cells
    refused some e = ap (λ (n : ℕ). cells_run n cells) (e ∙ number_is) ∙ is_refused _ _ λ zero. some (number_is ∙ zero)

  module _ (none : checked ≡ 0) (room : ◌≡◌ {A = ℕ} 0 (cond (misfit (length cells) matrix_height) 6 0)) where
    passes : words_cells_refusal words w h (length cells) ≡ 0
    passes = sym (number_is (six_next _ none room))

    accepted : {shape : Shape} → shape ≡ shape_of w h → ImageAccepted shape words × (length cells ≡ matrix_height)
    accepted Shape_is =
        let within = words_within words w h _ passes in
        (rw Shape_is (record { limits = within.0; stored = within.1; clean = within.2 }), eqb-true _ _ (not-false _ within.3))

    read : {shape : Shape} {left : CellsRun} → shape ≡ shape_of w h → left ≡ read_bits shape words cells → left ≡ words_cells words w h cells
    read Shape_is gave = gave ∙ ap (λ (s : Shape). read_bits s words cells) Shape_is ∙ sym (words_cells_read words w h cells passes)

pub returns-in_err-shape : goal.returns-in_err-shape
returns-in_err-shape c =
    let some = number_some c.in_err-shape.field-0.0 in
    refused c.args.words.now c.args.width c.args.height c.args.cells.now c.in_err-shape.ensures.answer (six_kept _ some) some
    (cells_carried c.from_residual.result (Refused c.in_err-shape.field-0.0) c.from_residual.ensures.1)

pub returns-in_err-cells_room : goal.returns-in_err-cells_room
returns-in_err-cells_room c =
    refused c.args.words.now c.args.width c.args.height c.args.cells.now c.in_ok-shape.ensures.answer (six_next _ refl c.in_err-cells_room.ensures)
    (number_some c.in_err-cells_room.field-0.0)
    (cells_carried c.from_residual-in_err-cells_room.result (Refused c.in_err-cells_room.field-0.0) c.from_residual-in_err-cells_room.ensures.1)

pub invariant_of-read_bits : goal.invariant_of-read_bits
invariant_of-read_bits c =
    let image =
    accepted c.args.words.now c.args.width c.args.height c.args.cells.now c.in_ok-shape.ensures.answer refl c.in_ok-cells_room.ensures
    c.in_ok-shape.ensures.shape in
    record { limits = image.0.limits; stored = image.0.stored }

pub read_bits-requires : goal.read_bits-requires
read_bits-requires c =
    accepted c.args.words.now c.args.width c.args.height c.args.cells.now c.in_ok-shape.ensures.answer refl c.in_ok-cells_room.ensures
    c.in_ok-shape.ensures.shape

pub returns-in_err-read_bits : goal.returns-in_err-read_bits
returns-in_err-read_bits c =
    ap (λ (n : ℕ). cells_run n c.read_bits.new.cells)
    (cells_carried c.from_residual-in_err-read_bits.result Blank c.from_residual-in_err-read_bits.ensures.1)
    ∙ read c.args.words.now c.args.width c.args.height c.args.cells.now c.in_ok-shape.ensures.answer refl c.in_ok-cells_room.ensures
    c.in_ok-shape.ensures.shape c.in_err-read_bits.ensures

pub returns : goal.returns
returns c =
    read c.args.words.now c.args.width c.args.height c.args.cells.now c.in_ok-shape.ensures.answer refl c.in_ok-cells_room.ensures
    c.in_ok-shape.ensures.shape c.in_ok-read_bits.ensures
