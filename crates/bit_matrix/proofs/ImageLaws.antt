-- Runs on an image, joined: one after another, past a test, and by a run of its words and marks. Assumes nothing.
use Rattle.std.specs.Prelude.{◌≡◌, Bool, true, false, cond}
use Rattle.std.proofs.Common.{◌∙◌, refl, lt-ltb, le-ltb, le-leb}
use Rattle.std.proofs.lemmas.Bool.{lt-leb}
use Rattle.reads.specs.Reads.{Reads, done, ◌>>=◌}
use Rattle.reads.specs.RunsClauses.{Ran}
use Rattle.reads.proofs.RunsLaws.{ran_bind, ran_done, ran_is, ran_then, ran_else, answered}
use Rattle.bit_matrix.specs.declared.Shape.{Shape}
use Rattle.bit_matrix.specs.declared.BitMatrix.{BitMatrix}
use Rattle.bit_matrix.specs.ImageClauses.{Kept, RanOn}

pub kept_same : {image : BitMatrix} → Kept image image
kept_same = record { words = refl; shape = refl; lent = refl }

pub kept_on : {i₀ i₁ i₂ : BitMatrix} → Kept i₀ i₁ → Kept i₁ i₂ → Kept i₀ i₂
kept_on first second = record { words = second.words ∙ first.words; shape = second.shape ∙ first.shape; lent = second.lent ∙ first.lent }

-- a run on an image that is as another but for its marks, said of the other's words and shape
pub onto : {A : Type 0} (p : Shape → Reads A) {i₀ i₁ i₂ : BitMatrix} {a : A} → Kept i₀ i₁ → RanOn (p i₁.shape) i₁ a i₂
    → Ran (p i₀.shape) i₀.words.now i₁.marks.now a i₂.marks.now
onto p kept run = rw (kept.shape, kept.words) at run.ran

-- the same as a run on the image it was given
pub on_next : {A : Type 0} (p : Shape → Reads A) {i₀ i₁ i₂ : BitMatrix} {a : A} → Kept i₀ i₁ → RanOn (p i₁.shape) i₁ a i₂ → RanOn (p i₀.shape) i₁ a i₂
on_next p kept run = record { kept = run.kept; ran = rw kept.shape at run.ran }

module _ {A : Type 0} where
  pub on_done : {image : BitMatrix} (a : A) → RanOn (done a) image a image
  on_done a = record { kept = kept_same; ran = ran_done a }

  pub on_is : {image : BitMatrix} {a r : A} → r ≡ a → RanOn (done a) image r image
  on_is e = record { kept = kept_same; ran = ran_is e }

  pub on_bind : {B : Type 0} {p : Reads A} (k : A → Reads B) {i₀ i₁ i₂ : BitMatrix} {a : A} {b : B}
      → RanOn p i₀ a i₁ → RanOn (k a) i₁ b i₂ → RanOn (p >>= k) i₀ b i₂
  on_bind k first second = record { kept = kept_on first.kept second.kept; ran = ran_bind k first.ran (rw first.kept.words at second.ran) }

  pub on_then : {t : Bool} (p q : Reads A) {i₀ i₁ : BitMatrix} {a : A} → t ≡ true → RanOn p i₀ a i₁ → RanOn (cond t p q) i₀ a i₁
  on_then p q e run = record { kept = run.kept; ran = ran_then p q e run.ran }

  pub on_else : {t : Bool} (p q : Reads A) {i₀ i₁ : BitMatrix} {a : A} → t ≡ false → RanOn q i₀ a i₁ → RanOn (cond t p q) i₀ a i₁
  on_else p q e run = record { kept = run.kept; ran = ran_else p q e run.ran }

-- for `search`: the return of a function with calls and tests and no loop
pub ruleset runs_on = (on_bind, on_done, on_is, on_then, on_else, answered, lt-ltb, le-ltb, le-leb, lt-leb)
