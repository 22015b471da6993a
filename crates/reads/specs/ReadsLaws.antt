-- What holds of a program's result on an image or on every image, programs that are the same, and images that agree at what is read: what the laws speak of.
use Rattle.std.specs.Prelude.{ℕ, Bool, ◌≡◌}
use mathlib.Core.List.{Memᴰ}
use Rattle.reads.specs.Reads.{Reads, value, trace}

-- P holds of the result on this image, of whose bits it may speak
pub record On {A : Type 0} (image : ℕ → Bool) (P : A → Type 0) (p : Reads A) : Type 0 where
  pub holds : P (value p image)

-- P holds of the result, whatever the image
pub record Always {A : Type 0} (P : A → Type 0) (p : Reads A) : Type 0 where
  pub on : (image : ℕ → Bool) → P (value p image)

-- one result and one trace, whatever the image
pub record Same {A : Type 0} (p q : Reads A) : Type 0 where
  pub values : (image : ℕ → Bool) → value p image ≡ value q image
  pub traces : (image : ℕ → Bool) → trace p image ≡ trace q image

-- two images agree at each bit that a program reads on the first
abbrev pub Agree : {A : Type 0} → Reads A → (ℕ → Bool) → (ℕ → Bool) → Type 0
Agree p f g = (i : ℕ) → Memᴰ i (trace p f) → g i ≡ f i
