-- `crop::check_words` meets its contract: one lemma for each return, by the shape that was worked out.
use Rattle.std.specs.Prelude.{ℕ, Bool, true, false, List, ◌≡◌, refl, length}
use Rattle.std.proofs.Common.{arith, sym, ap, ap₂, ◌∙◌}
use Rattle.bit_matrix.specs.declared.Shape.{Shape}
use Rattle.bit_matrix.specs.Shape.{shape_of, size}
use Rattle.bit_matrix.specs.ShapeClauses.{Limits}
use Rattle.crop_sizes.specs.ChainLaws.{chain_here, chain_next}
use Rattle.crop_sizes.specs.Refusals.{number_some, carried}
use Rattle.crop_sizes.specs.Sizes.{least_side, image_refusal}
use Rattle.crop_sizes.specs.SizesLaws.{rows_of, image_within, size_kept, size_next}
use Rattle.crop_padding.specs.Padding.{words_padded}
use Rattle.crop.specs.Crop.{words_refusal_of}
use Rattle.crop.proofs.check_words.Goals as goal

module _ (words : List ℕ) (w h : ℕ) {shape : Shape} (is : shape ≡ shape_of w h) {needed answer : ℕ} (needed_is : needed ≡ size shape)
    (sized : answer ≡ image_refusal least_side shape (length words) needed false false) where
  module _ (zero : answer ≡ 0) where
    within : Limits shape × (length words ≡ size shape)
    within =
        let image = image_within least_side (omega arith) shape (length words) needed _ _ (rows_of is) (sym sized ∙ zero) in
        (image.0, image.1 ∙ needed_is)

  size_is : answer ≡ image_refusal least_side (shape_of w h) (length words) (size (shape_of w h)) false false
  size_is = sized ∙ ap₂ (λ (s : Shape) (n : ℕ). image_refusal least_side s (length words) n false false) is (needed_is ∙ ap size is)

  bad_size : (answer ≡ 0 → ⊥) → answer ≡ words_refusal_of words w h false
  unfolding words_refusal_of
  bad_size ne = size_kept _ _ _ _ _ _ size_is ne

  module _ (zero : answer ≡ 0) {padded : Bool} (tested : padded ≡ words_padded words shape.width shape.height) where
    tested_is : words_padded words w h ≡ padded
    tested_is = sym (tested ∙ ap (λ (s : Shape). words_padded words s.width s.height) is)

    bad_padding : padded ≡ true → 5 ≡ words_refusal_of words w h false
    unfolding words_refusal_of
    bad_padding set = size_next _ _ _ _ _ _ size_is zero (chain_here 5 _ (tested_is ∙ set) refl)

    accepted : padded ≡ false → 0 ≡ words_refusal_of words w h false
    unfolding words_refusal_of
    accepted clean = size_next _ _ _ _ _ _ size_is zero (chain_next 5 _ (tested_is ∙ clean) refl)

pub returns-in_err-size_refusal-clause-answer : goal.returns-in_err-size_refusal-clause-answer
returns-in_err-size_refusal-clause-answer c =
    carried c.from_residual.result c.in_err-size_refusal.field-0.0 c.from_residual.ensures.1
    ∙ bad_size c.args.words.now c.args.width c.args.height c.shape_of-shape.ensures c.image_words-needed.ensures c.in_err-size_refusal.ensures
    (number_some c.in_err-size_refusal.field-0.0)

pub invariant_of-words_padded : goal.invariant_of-words_padded
invariant_of-words_padded c =
    let image = within c.args.words.now c.args.width c.args.height c.shape_of-shape.ensures c.image_words-needed.ensures c.in_ok-size_refusal.ensures refl in
    record { limits = image.0; stored = image.1 }

pub returns-then-words_padded-clause-answer : goal.returns-then-words_padded-clause-answer
returns-then-words_padded-clause-answer c =
    bad_padding c.args.words.now c.args.width c.args.height c.shape_of-shape.ensures c.image_words-needed.ensures c.in_ok-size_refusal.ensures refl
    c.words_padded.ensures c.if-words_padded.true

pub returns-clause-answer : goal.returns-clause-answer
returns-clause-answer c =
    accepted c.args.words.now c.args.width c.args.height c.shape_of-shape.ensures c.image_words-needed.ensures c.in_ok-size_refusal.ensures refl
    c.words_padded.ensures c.if-words_padded.false
