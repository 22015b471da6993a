-- `crop_sizes::size_refusal` meets its contract: at each return, the tests that led there decide the definition's.
use Rattle.std.specs.Prelude.{ℕ, ◌≤◌, ◌<◌, Bool, true, false, ◌||◌, ◌≡◌, refl, ltb}
use Rattle.std.proofs.Common.{arith, sym, ◌∙◌, lt-ltb, le-ltb}
use Rattle.bit_matrix.specs.declared.Shape.{Shape}
use Rattle.bit_matrix.specs.Shape.{size}
use Rattle.crop_sizes.specs.ChainLaws.{chain, chain_here, either_left, either_right, neither}
use Rattle.crop_sizes.specs.Sizes.{image_refusal}
use Rattle.crop_sizes.proofs.size_refusal.Goals.{then-is_outside-via-then-is_outside, then-is_outside-via-else-is_outside+then-is_outside-2}
use Rattle.crop_sizes.proofs.size_refusal.Goals as goal

-- two tests that both failed
inside : {a b x y : Bool} → a ≡ x → b ≡ y → a ≡ false → b ≡ false → (x || y) ≡ false
inside is is' e e' = neither (sym is ∙ e) (sym is' ∙ e')

-- the image's words, as they were worked out, against the limit
module _ (shape : Shape) {n : ℕ} (is : n ≡ size shape) where
  too_many : 8000 < n → ltb 8000 (size shape) ≡ true
  too_many more = lt-ltb 8000 (size shape) (omega arith)

  few_enough : n ≤ 8000 → ltb 8000 (size shape) ≡ false
  few_enough fewer = le-ltb 8000 (size shape) (omega arith)

pub returns-then-is_outside : goal.returns-then-is_outside
unfolding image_refusal
returns-then-is_outside c =
    elim c.then-is_outside.branch [
      | then-is_outside-via-then-is_outside w ↦
          chain_here _ _ (either_left _ (sym c.is_outside.ensures ∙ w.if-is_outside.true)) refl
      | then-is_outside-via-else-is_outside+then-is_outside-2 w ↦
          chain_here _ _ (either_right _ (sym w.is_outside-else-is_outside.ensures ∙ w.if-is_outside-2.true)) refl
    ]

pub returns-then-image_words-gt8000 : goal.returns-then-image_words-gt8000
unfolding image_refusal
returns-then-image_words-gt8000 c =
    let e = inside c.is_outside.ensures c.is_outside-else-is_outside.ensures c.if-is_outside.false c.if-is_outside-2.false in search (chain, too_many)

pub returns-then-given-needed : goal.returns-then-given-needed
unfolding image_refusal
returns-then-given-needed c =
    let e = inside c.is_outside.ensures c.is_outside-else-is_outside.ensures c.if-is_outside.false c.if-is_outside-2.false in search (chain, few_enough)

pub returns : goal.returns
unfolding image_refusal
returns c =
    let e = inside c.is_outside.ensures c.is_outside-else-is_outside.ensures c.if-is_outside.false c.if-is_outside-2.false in search (chain, few_enough)
