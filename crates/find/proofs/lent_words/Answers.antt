-- `find::lent_words` meets its contract: an accepted image has at most 8,000 words.
use Rattle.std.specs.Prelude.{ℕ, ◌≤◌, List, Ok, Err, ◌≡◌, refl}
use Rattle.std.proofs.Common.{arith, sym, ap, subst, ◌∙◌, eq-eqb, ne_eqb}
use Rattle.bit_matrix.specs.declared.Shape.{Shape}
use Rattle.bit_matrix.specs.Shape.{size}
use Rattle.crop_sizes.specs.declared.Refusal.{Refusal}
use Rattle.crop_sizes.specs.Refusals.{number_some}
use Rattle.crop.specs.Crop.{refusal}
use Rattle.crop.specs.CropClauses.{Checks}
use Rattle.crop.specs.CropLaws.{file_accepted_by}
use Rattle.find.specs.Find.{lent_words}
use Rattle.find.proofs.lent_words.Goals as goal

-- the words of a file that was checked: no image has more than 8,000
lent_ok : (file : List ℕ) (shape : Shape) {n : ℕ} → n ≡ size shape → Checks file (Ok shape) → (n ≡ lent_words file) × (n ≤ 8000)
unfolding lent_words
lent_ok file shape is checks = (
  rw (eq-eqb (refusal file) 0 (sym checks.answer)) (is ∙ ap size checks.shape),
  omega (arith, is, (file_accepted_by (Ok shape) checks).limits.words_most),
)

lent_none : (file : List ℕ) (refusal : Refusal) → Checks file (Err refusal) → 0 ≡ lent_words file
unfolding lent_words
lent_none file reason checks = rw (ne_eqb (refusal file) 0 λ zero. number_some reason (checks.answer ∙ zero)) refl

pub returns-in-Ok : goal.returns-in-Ok
returns-in-Ok c file checks = lent_ok file c.in-Ok.shape c.image_words.ensures (subst (Checks file) c.in-Ok.is checks)

pub returns-in-Err : goal.returns-in-Err
returns-in-Err c file checks = (lent_none file c.in-Err.field-0 (subst (Checks file) c.in-Err.is checks), omega arith)
