-- The laws of sequence, one run on images that agree at the bits read, and how it is shown that a fact holds on one image or always, and that two programs
-- are the same on every image. Assumes nothing.
use Rattle.std.specs.Prelude.{ℕ, Bool, true, false, cond, ◌≡◌, refl}
use Rattle.std.proofs.Common.{sym, ap, ap₂, ◌∙◌, List, ◌∷◌, ◌++◌}
use Rattle.std.proofs.Math.Path.{fun_ext}
use mathlib.Core.List.{Memᴰ}
use Rattle.reads.specs.Reads.{Reads, done, read, ◌>>=◌, value, trace}
use Rattle.reads.specs.ReadsLaws.{On, Always, Same, Agree}

-- ---- sequence

pub bind_assoc : {A B C : Type 0} (p : Reads A) (k : A → Reads B) (l : B → Reads C) → p >>= k >>= l ≡ p >>= (λ a. k a >>= l)
unfolding ◌>>=◌
bind_assoc (done a) k l = refl
bind_assoc (read i next) k l = ap (read i) (fun_ext λ b. bind_assoc (next b) k l)

pub value_bind : {A B : Type 0} (p : Reads A) (k : A → Reads B) (image : ℕ → Bool)
    → value (p >>= k) image ≡ value (k (value p image)) image
unfolding ◌>>=◌ value
value_bind (done a) k image = refl
value_bind (read i next) k image = value_bind (next (image i)) k image

pub trace_bind : {A B : Type 0} (p : Reads A) (k : A → Reads B) (image : ℕ → Bool)
    → trace (p >>= k) image ≡ trace p image ++ trace (k (value p image)) image
unfolding ◌>>=◌ value trace
trace_bind (done a) k image = refl
trace_bind (read i next) k image = ap (λ (t : List ℕ). i ∷ t) (trace_bind (next (image i)) k image)

-- ---- one run

-- then it has one value and one trace on both
pub same_run : {A : Type 0} (p : Reads A) (f g : ℕ → Bool) → Agree p f g → (value p g ≡ value p f) × (trace p g ≡ trace p f)
unfolding value trace
same_run (done a) f g agree = (refl, refl)
same_run {A} (read i next) f g agree =
    let rest : (value (next (f i)) g ≡ value (next (f i)) f) × (trace (next (f i)) g ≡ trace (next (f i)) f) =
    same_run (next (f i)) f g λ j m. agree j (Memᴰ.tail m) in
    let here : g i ≡ f i = agree i (Memᴰ.head refl) in
    (ap (λ (b : Bool). value (next b) g) here ∙ rest.0, ap (λ (b : Bool). i ∷ trace (next b) g) here ∙ ap (λ (t : List ℕ). i ∷ t) rest.1)

-- ---- what holds of the result on an image

module _ (image : ℕ → Bool) {A : Type 0} {P : A → Type 0} where
  pub on_done : {a : A} → P a → On image P (done a)
  unfolding value
  on_done h = record { holds = h }

  -- what holds on every image
  pub on_always : {p : Reads A} → Always P p → On image P p
  on_always always = record { holds = always.on image }

  -- after a step of which Q holds
  pub on_bind : {B : Type 0} {Q : B → Type 0} {p : Reads B} (k : B → Reads A) → On image Q p → ((b : B) → Q b → On image P (k b)) → On image P (p >>= k)
  on_bind {p = p} k first rest = record { holds = rw value_bind (rest (value p image) first.holds).holds }

  -- after a step whose result is its value
  pub on_after : {B : Type 0} (p : Reads B) (k : B → Reads A) → ((b : B) → b ≡ value p image → On image P (k b)) → On image P (p >>= k)
  on_after p k rest = on_bind {Q = λ b. b ≡ value p image} k (record { holds = refl }) rest

  pub on_cond : (t : Bool) {p q : Reads A} → (t ≡ true → On image P p) → (t ≡ false → On image P q) → On image P (cond t p q)
  on_cond true f g = f refl
  on_cond false f g = g refl

-- ---- what holds of the result on every image

module _ {A : Type 0} {P : A → Type 0} where
  pub always_done : {a : A} → P a → Always P (done a)
  unfolding value
  always_done h = record { on = λ image. h }

  -- after a step of which Q always holds
  pub always_bind : {B : Type 0} {Q : B → Type 0} {p : Reads B} (k : B → Reads A)
      → Always Q p → ((b : B) → Q b → Always P (k b)) → Always P (p >>= k)
  always_bind {p = p} k first rest = record { on = λ image. rw value_bind ((rest (value p image) (first.on image)).on image) }

  -- after a step of which nothing is known
  pub always_after : {B : Type 0} (p : Reads B) (k : B → Reads A) → ((b : B) → Always P (k b)) → Always P (p >>= k)
  always_after p k rest = record { on = λ image. rw value_bind ((rest (value p image)).on image) }

  pub always_cond : (t : Bool) {p q : Reads A} → (t ≡ true → Always P p) → (t ≡ false → Always P q) → Always P (cond t p q)
  always_cond true f g = f refl
  always_cond false f g = g refl

-- ---- two programs that are the same on every image

module _ {A : Type 0} where
  pub same_refl : {p : Reads A} → Same p p
  same_refl = record { values = λ image. refl; traces = λ image. refl }

  -- after steps that are the same, of which Q always holds
  pub same_bind : {B : Type 0} {Q : B → Type 0} {p q : Reads B} (k l : B → Reads A)
      → Same p q → Always Q p → ((b : B) → Q b → Same (k b) (l b)) → Same (p >>= k) (q >>= l)
  same_bind {p = p} {q} k l first always rest =
      let next : (image : ℕ → Bool) → Same (k (value p image)) (l (value p image)) = λ image. rest (value p image) (always.on image) in
      record {
        values = λ image.
            value_bind p k image ∙ (next image).values image ∙ ap (λ b. value (l b) image) (first.values image) ∙ sym (value_bind q l image);
        traces = λ image.
            trace_bind p k image
            ∙ ap₂ ◌++◌ (first.traces image) ((next image).traces image ∙ ap (λ b. trace (l b) image) (first.values image))
            ∙ sym (trace_bind q l image);
      }

  -- after steps that are the same, of which nothing more is known
  pub same_after : {B : Type 0} {p q : Reads B} (k l : B → Reads A) → Same p q → ((b : B) → Same (k b) (l b)) → Same (p >>= k) (q >>= l)
  same_after k l first rest = same_bind {Q = λ _. Unit {0}} k l first (record { on = λ image. tt }) (λ b _. rest b)

  pub same_cond : (t : Bool) {p q r s : Reads A} → (t ≡ true → Same p q) → (t ≡ false → Same r s) → Same (cond t p r) (cond t q s)
  same_cond true f g = f refl
  same_cond false f g = g refl
