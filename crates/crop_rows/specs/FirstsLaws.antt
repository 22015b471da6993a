-- Laws of the list of a function's first values. Assumes nothing.
use Rattle.std.proofs.Math.Decide.{ℕ_discrete}
use Rattle.std.proofs.Common.{add-one, arith, append-nil, ap₂, ◌∙◌, drop_of_length-le}
use Rattle.std.specs.Prelude.{List, [], ◌∷◌, ◌++◌, ◌≡◌, length, get_or, set, drop, ℕ, zero, suc, ◌+◌, ◌≤◌, ◌<◌}
use Rattle.std.proofs.Math.Path.{refl, sym}
use Rattle.std.proofs.Math.ListN.{length-append, get_or-append}
use Rattle.std.proofs.Math.Seq.{append_snoc, drop-cons}
use Rattle.std.proofs.lemmas.List.{get_or_at, set_at}
use Rattle.crop_padding.specs.Below.{firsts}

module _ (f : ℕ → ℕ) where
  pub length_firsts : (n : ℕ) → length (firsts f n) ≡ n
  unfolding firsts
  length_firsts zero = refl
  length_firsts (suc n) = rw length-append (omega (arith, length_firsts n))

  at_or_before : {i n : ℕ} → Dec (i ≡ n) → i < suc n → (i < n → get_or (firsts f n) i 0 ≡ f i) → get_or (firsts f n ++ (f n ∷ [])) i 0 ≡ f i
  at_or_before {i} {n} (yes e) h rest = rw e (get_or_at (firsts f n) (f n) [] 0 n (length_firsts n))
  at_or_before {i} {n} (no other) h rest = get_or-append (firsts f n) (f n ∷ []) 0 i (rw length_firsts (omega arith)) ∙ rest (omega arith)

  pub get_or_firsts : (n : ℕ) {i : ℕ} → i < n → get_or (firsts f n) i 0 ≡ f i
  unfolding firsts
  get_or_firsts zero h = absurd (omega arith)
  get_or_firsts (suc n) {i} h = at_or_before (ℕ_discrete i n) h λ l. get_or_firsts n l

  -- a loop that stores the first values in a lent list: before it, a turn, and at its end
  pub firsts_none : (d : List ℕ) → d ≡ firsts f 0 ++ drop 0 d
  unfolding firsts
  firsts_none d = refl

  pub firsts_more : (d : List ℕ) (n : ℕ) {v : ℕ} → n < length d → v ≡ f n → set (firsts f n ++ drop n d) n v ≡ firsts f (n + 1) ++ drop (n + 1) d
  unfolding firsts
  firsts_more d n {v} h e =
      rw (add-one, drop-cons d n 0 h, e)
      (set_at (firsts f n) (get_or d n 0) (drop (suc n) d) (f n) n (length_firsts n) ∙ sym (append_snoc (firsts f n) (f n) (drop (suc n) d)))

  pub firsts_all : (d : List ℕ) {n : ℕ} → length d ≤ n → firsts f n ++ drop n d ≡ firsts f n
  firsts_all d {n} h = rw drop_of_length-le (append-nil (firsts f n))

-- equal values make equal lists
pub firsts_same : (f g : ℕ → ℕ) (n : ℕ) → ((k : ℕ) → k < n → f k ≡ g k) → firsts f n ≡ firsts g n
unfolding firsts
firsts_same f g zero same = refl
firsts_same f g (suc n) same = ap₂ (λ (l : List ℕ) (v : ℕ). l ++ (v ∷ [])) (firsts_same f g n λ k h. same k (omega arith)) (same n (omega arith))
