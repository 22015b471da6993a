-- `crop::unpack` meets its contract: one lemma for each return.
use Rattle.std.specs.Prelude.{ℕ, List, Result, Ok, ◌≡◌, refl, length}
use Rattle.std.proofs.Common.{sym, ap, ◌∙◌, eqb-true, ne_eqb}
use Rattle.std.proofs.lemmas.Bool.{not-false}
use Rattle.bit_matrix.specs.declared.Shape.{Shape}
use Rattle.bit_matrix.specs.Shape.{size}
use Rattle.crop_sizes.specs.declared.Refusal.{Refusal}
use Rattle.crop_sizes.specs.Refusals.{number_some, carried}
use Rattle.crop_sizes.specs.Sizes.{misfit}
use Rattle.crop_sizes.specs.SizesLaws.{chain_past}
use Rattle.crop_rows.specs.Unpack.{unpacked}
use Rattle.crop_rows.specs.UnpackClauses.{FileAccepted}
use Rattle.crop.specs.Crop.{Unpacks}
use Rattle.crop.specs.CropClauses.{Checks, or_lent}
use Rattle.crop.specs.CropLaws.{checked_shape, checked_accepted, unpack_refusal_by}
use Rattle.crop.proofs.unpack.Goals as goal

module _ {file : List ℕ} (words : List ℕ) {c : Result Shape Refusal} (checks : Checks file c) {r : ℕ}
    (is : r ≡ or_lent c (λ s. misfit (length words) (size s))) where
  refused : (r ≡ 0 → ⊥) → Unpacks file words r words
  refused ne = record { answer = unpack_refusal_by checks (length words) is; stored = rw (ne_eqb r 0 ne) refl }

  module _ (zero : r ≡ 0) {shape : Shape} (ok : c ≡ Ok shape) where
    ready : FileAccepted shape file × (length words ≡ size shape)
    ready =
        let lent = is ∙ ap (λ (x : Result Shape Refusal). or_lent x λ s. misfit (length words) (size s)) ok in
        (checked_accepted checks ok, eqb-true _ _ (not-false _ (chain_past _ 5 _ (sym lent ∙ zero)).0))

    done : {after : List ℕ} → after ≡ unpacked file shape → Unpacks file words 0 after
    done stored = record {
      answer = sym zero ∙ unpack_refusal_by checks (length words) is;
      stored = stored ∙ ap (unpacked file) (checked_shape checks ok);
    }

pub returns-in_err-shape : goal.returns-in_err-shape
returns-in_err-shape c =
    let named = carried c.from_residual.result c.in_err-shape.field-0.0 c.from_residual.ensures.1 in
    refused c.args.words.now c.check_file.ensures (named ∙ c.in_err-shape.ensures.answer) λ zero. number_some c.in_err-shape.field-0.0 (sym named ∙ zero)

pub unpack_rows-requires : goal.unpack_rows-requires
unpack_rows-requires c = ready c.args.words.now c.check_file.ensures c.in_ok-shape.ensures.answer refl c.in_ok-shape.ensures.shape

pub returns : goal.returns
returns c = done c.args.words.now c.check_file.ensures c.in_ok-shape.ensures.answer refl c.in_ok-shape.ensures.shape c.unpack_rows.ensures
