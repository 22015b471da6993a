-- A quotient rounded to the nearest whole number, `lib.Ieee.Nearest.closest`, by its whole part and its rest. Nothing here is about floats. Assumes nothing.
use Rattle.std.proofs.Common.{ℕ, zero, suc, ◌+◌, ◌-◌, ◌*◌, ◌/◌, ◌%◌, ◌≤◌, ◌<◌, le_of_eq, le_of_lt, arith, ◌≡◌, refl, sym, ap, ◌∙◌, not, ◌⊎◌, inl, inr, T, leb→le, eqb→eq}
use Prim.Native.Nat.{compare, Ordering}
use Rattle.std.specs.Float.Ieee.{nearest}
use Rattle.std.proofs.Math.Arith.{digits_div, digits_mod}
use Rattle.std.proofs.Math.Dec.{is_le, compare_is_eq, nleb→lt}
use lib.Ieee.Nearest.{closest}

-- ---- `compare`
compare_lt : (a b : ℕ) → a < b → compare a b ≡ Ordering.lt
compare_lt a b h = go (compare a b) (nleb→lt a b) (eqb→eq a b)
  where
    go : (o : Ordering) → (T (not (is_le o)) → b < a) → (T (compare_is_eq o) → a ≡ b) → o ≡ Ordering.lt
    go Ordering.lt g e = refl
    go Ordering.eq g e = absurd (omega (arith, e tt))
    go Ordering.gt g e = absurd (omega (arith, g tt))

compare_gt : (a b : ℕ) → b < a → compare a b ≡ Ordering.gt
compare_gt a b h = go (compare a b) (leb→le a b)
  where
    go : (o : Ordering) → (T (is_le o) → a ≤ b) → o ≡ Ordering.gt
    go Ordering.lt l = absurd (omega (arith, l tt))
    go Ordering.eq l = absurd (omega (arith, l tt))
    go Ordering.gt l = refl

-- ---- a / b, with whole part h and rest r
closest_at : (a b h r : ℕ) → a ≡ h * b + r → r < b → closest a b ≡ nearest h (compare (r * 2) b)
closest_at a b h r e fit =
    ap (λ (x : ℕ). closest x b) e
    ∙ ap (λ (x : ℕ). nearest x (compare ((h * b + r) % b * 2) b)) (digits_div h fit)
    ∙ ap (λ (x : ℕ). nearest h (compare (x * 2) b)) (digits_mod h fit)

-- a lies from 2 * g * c up to 2 * (g + 1) * c, and above its lower end where g is odd. In units of 4 * c it rounds to g / 2, halved up.
even_digit : (a b c g h : ℕ) → b ≡ 4 * c → g ≡ 2 * h → 2 * (g * c) ≤ a → a < 2 * ((g + 1) * c) → closest a b ≡ h
even_digit a b c g h four even low high =
    let gc : g * c ≡ 2 * h * c = ap (λ (x : ℕ). x * c) even in
    let hb : h * b ≡ h * (4 * c) = ap (λ (x : ℕ). h * x) four in
    let from : h * b ≤ a = omega arith in
    closest_at a b h (a - h * b) (omega arith) (omega arith) ∙ ap (nearest h) (compare_lt ((a - h * b) * 2) b (omega arith))

odd_digit : (a b c g h : ℕ) → b ≡ 4 * c → g ≡ 2 * h + 1 → 2 * (g * c) < a → a < 2 * ((g + 1) * c) → closest a b ≡ suc h
odd_digit a b c g h four odd low high =
    let gc : g * c ≡ (2 * h + 1) * c = ap (λ (x : ℕ). x * c) odd in
    let hb : h * b ≡ h * (4 * c) = ap (λ (x : ℕ). h * x) four in
    let from : h * b ≤ a = omega arith in
    closest_at a b h (a - h * b) (omega arith) (omega arith) ∙ ap (nearest h) (compare_gt ((a - h * b) * 2) b (omega arith))

pub half_digit : (a b c g : ℕ) → b ≡ 4 * c → 2 * (g * c) ≤ a → a < 2 * ((g + 1) * c) → (g % 2 ≡ 1 → 2 * (g * c) < a) → closest a b ≡ (g + 1) / 2
half_digit a b c g four low high odd = go (g % 2) refl (omega arith)
  where
    go : (r : ℕ) → g % 2 ≡ r → r < 2 → closest a b ≡ (g + 1) / 2
    go zero e l = even_digit a b c g (g / 2) four (omega arith) low high ∙ halves
      where
        halves : g / 2 ≡ (g + 1) / 2
        halves = omega arith
    go (suc zero) e l = odd_digit a b c g (g / 2) four (omega arith) (odd e) high ∙ halves
      where
        halves : suc (g / 2) ≡ (g + 1) / 2
        halves = omega arith
    go (suc (suc r)) e l = absurd (omega arith)

-- ---- rounded down, or up
abbrev pub Down : ℕ → ℕ → ℕ → ℕ → Type 0
Down q h r b = (q ≡ h) × (r * 2 ≤ b)

abbrev pub Up : ℕ → ℕ → ℕ → ℕ → Type 0
Up q h r b = (q ≡ suc h) × (b ≤ r * 2)

nearest_cases : (h r b : ℕ) (o : Ordering) → (T (is_le o) → r * 2 ≤ b) → (T (not (is_le o)) → b < r * 2) → (T (compare_is_eq o) → r * 2 ≡ b)
    → Down (nearest h o) h r b ⊎ Up (nearest h o) h r b
nearest_cases h r b Ordering.lt l g e = inl (refl, l tt)
nearest_cases h r b Ordering.gt l g e = inr (refl, le_of_lt (g tt))
nearest_cases h r b Ordering.eq l g e = tie (h % 2) refl (omega arith)
  where
    tie : (k : ℕ) → h % 2 ≡ k → k < 2 → Down (h + h % 2) h r b ⊎ Up (h + h % 2) h r b
    tie zero z small = inl (omega arith, l tt)
    tie (suc zero) z small = inr (omega arith, le_of_eq (sym (e tt)))
    tie (suc (suc k)) z small = absurd (omega arith)

pub closest_cases : (a b : ℕ) → Down (closest a b) (a / b) (a % b) b ⊎ Up (closest a b) (a / b) (a % b) b
closest_cases a b = nearest_cases (a / b) (a % b) b (compare (a % b * 2) b) (leb→le (a % b * 2) b) (nleb→lt (a % b * 2) b) (eqb→eq (a % b * 2) b)
