-- `crop::check_file` meets its contract: one lemma for each return, by the shape that was worked out.
use Rattle.std.specs.Prelude.{ℕ, Bool, true, false, List, Result, Ok, Err, ◌≡◌, refl, length}
use Rattle.std.specs.Result.{IsErrAnd}
use Rattle.std.proofs.Common.{arith, sym, ap, ap₂, ◌∙◌}
use Rattle.bit_matrix.specs.declared.Shape.{Shape}
use Rattle.bit_matrix.specs.ShapeClauses.{Limits}
use Rattle.crop_sizes.specs.declared.Refusal.{Refusal}
use Rattle.crop_sizes.specs.declared.Refusal.TheVariants.{Padding}
use Rattle.crop_sizes.specs.ChainLaws.{chain_here, chain_next}
use Rattle.crop_sizes.specs.Refusals.{number_of, number_some}
use Rattle.crop_sizes.specs.Sizes.{file_length, least_side, image_refusal}
use Rattle.crop_sizes.specs.SizesLaws.{rows_of, image_within, size_kept, size_next}
use Rattle.crop_padding.specs.Padding.{file_padded}
use Rattle.crop.specs.Crop.{width, height, file_shape, bad_header, refusal_of, file_kind, refusal}
use Rattle.crop.specs.CropClauses.{Checks}
use Rattle.crop.proofs.check_file.Goals as goal

-- refused
refused_by : {file : List ℕ} (r : Result Shape Refusal) (e : Refusal) → IsErrAnd r (λ x. x ≡ e) → number_of e ≡ refusal file → Checks file r
refused_by (Ok shape) e is named = absurd is
refused_by (Err x) e is named = record { answer = ap number_of is ∙ named; shape = tt }

bad_header_lem : (file : List ℕ) {n : ℕ} → (bad_header file_kind file ≡ true) × (n ≡ 1) → n ≡ refusal file
unfolding refusal_of
bad_header_lem file bad = bad.1 ∙ chain_here 1 _ bad.0 refl

module _ (file : List ℕ) {shape : Shape} (headed : (bad_header file_kind file ≡ false) × (shape ≡ file_shape file)) {needed answer : ℕ}
    (long : needed ≡ file_length shape.width shape.height) (sized : answer ≡ image_refusal least_side shape (length file) needed false false) where
  within : answer ≡ 0 → Limits shape × (length file ≡ file_length shape.width shape.height)
  within zero =
      let image = image_within least_side (omega arith) shape (length file) needed _ _ (rows_of headed.1) (sym sized ∙ zero) in
      (image.0, image.1 ∙ long)

  size_is : answer ≡ image_refusal least_side (file_shape file) (length file) (file_length (width file) (height file)) false false
  size_is =
      sized
      ∙ ap₂ (λ (s : Shape) (n : ℕ). image_refusal least_side s (length file) n false false) headed.1
      (long ∙ ap (λ (s : Shape). file_length s.width s.height) headed.1)

  bad_size : (answer ≡ 0 → ⊥) → answer ≡ refusal file
  unfolding refusal_of
  bad_size ne = chain_next 1 _ headed.0 (size_kept _ _ _ _ _ _ size_is ne)

  module _ (zero : answer ≡ 0) {padded : Bool} (tested : padded ≡ file_padded file shape.width shape.height) where
    tested_is : file_padded file (width file) (height file) ≡ padded
    tested_is = sym (tested ∙ ap (λ (s : Shape). file_padded file s.width s.height) headed.1)

    bad_padding : padded ≡ true → Checks file (Err Padding)
    unfolding refusal_of
    bad_padding set =
        record { answer = chain_next 1 _ headed.0 (size_next _ _ _ _ _ _ size_is zero (chain_here 5 _ (tested_is ∙ set) refl)); shape = tt }

    accepted : padded ≡ false → Checks file (Ok shape)
    unfolding refusal_of
    accepted clean = record {
      answer = chain_next 1 _ headed.0 (size_next _ _ _ _ _ _ size_is zero (chain_next 5 _ (tested_is ∙ clean) refl));
      shape = headed.1;
    }

pub returns-in_err-shape : goal.returns-in_err-shape
returns-in_err-shape c = refused_by c.from_residual.result c.in_err-shape.field-0.0 c.from_residual.ensures.1 (bad_header_lem c.args.file.now c.in_err-shape.ensures)

pub returns-in_err-size_refusal : goal.returns-in_err-size_refusal
returns-in_err-size_refusal c =
    refused_by c.from_residual-in_err-size_refusal.result c.in_err-size_refusal.field-0.0 c.from_residual-in_err-size_refusal.ensures.1
    (bad_size c.args.file.now c.in_ok-shape.ensures c.file_length-needed.ensures c.in_err-size_refusal.ensures (number_some c.in_err-size_refusal.field-0.0))

pub invariant_of-file_padded : goal.invariant_of-file_padded
invariant_of-file_padded c =
    let image = within c.args.file.now c.in_ok-shape.ensures c.file_length-needed.ensures c.in_ok-size_refusal.ensures refl in
    record { limits = image.0; sized = image.1 }

pub returns-then-file_padded : goal.returns-then-file_padded
returns-then-file_padded c =
    bad_padding c.args.file.now c.in_ok-shape.ensures c.file_length-needed.ensures c.in_ok-size_refusal.ensures refl c.file_padded.ensures
    c.if-file_padded.true

pub returns : goal.returns
returns c =
    accepted c.args.file.now c.in_ok-shape.ensures c.file_length-needed.ensures c.in_ok-size_refusal.ensures refl c.file_padded.ensures
    c.if-file_padded.false
