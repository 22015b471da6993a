-- How many steps a walk to the right takes at most: few enough at every degree for f32 to count them, under 17,000 at 7 and 97 degrees, and under 47,000 at
-- the multiples of 5 degrees but 0 and 180. And what is known of the sine and the cosine there. The bounds are tests that antt computes over the
-- table of sines. Assumes nothing.
use Rattle.std.specs.Prelude.{◌≡◌, refl, Bool, true, false, not, ◌||◌, ◌⊎◌, ℕ, zero, suc, ◌+◌, ◌*◌, ◌/◌, ◌%◌, ◌^◌, ◌<◌, ◌≤◌, T, leb, ltb, eqb, ℤ, pos, negsuc, nat_abs}
use Rattle.std.proofs.Common.{sym, subst, inl, inr, mod-lt, mul_comm, le_of_eq, le_trans, le_of_lt, div-lt_iff_lt-mul, arith, leb→le, ltb→lt, eqb→eq, lit<, eqb-true}
use Rattle.std.specs.Float.Ieee.{of_bits}
use Rattle.std.specs.Float.Ieee.Exact.{HasValue}
use Rattle.bit_matrix.specs.declared.Shape.{Shape}
use Rattle.bit_matrix.specs.Shape.{shape_of, size}
use Rattle.bit_matrix.specs.ShapeClauses.{Limits}
use Rattle.sines.specs.declared.Angle.{Angle}
use Rattle.sines.specs.Sines.{sine_of, angle_of}
use Rattle.sines.specs.Laws.{scaled, scaled_sine, scaled_cosine, negative}
use Rattle.sines.proofs.Laws.{sine_mod, sine_mod_add, sine_rules}
use Rattle.reads.specs.EveryLaws.{every, every_at}
use Rattle.detector_walks.specs.WalksClauses.{OfDegree}

-- Within so many steps a walk to the right has ended, by the sine in units of 2 ^ -29. Where it is 0 the row stays, and the columns of all words are
-- passed, at 180 degrees after the way to column 0. Where the rows grow, 2,048 are passed. Where they fall, they grow again from row 0: at most as
-- many more.
unfoldable pub steps_of : Shape → ℤ → ℕ
steps_of shape (pos zero) = 64 * size shape + 4096
steps_of shape (pos (suc n)) = 2048 * 2 ^ 29 / suc n + 1
steps_of shape (negsuc n) = 4096 * 2 ^ 29 / suc n + 1

abbrev pub steps_right : Shape → Angle → ℕ
steps_right shape angle = steps_of shape (scaled angle.sin)

-- ---- steps of n units each pass so many units
pub steps_reach : (n far : ℕ) → far ≤ suc n * (far / suc n + 1)
steps_reach n far =
    let some : 0 < suc n = omega arith in
    let over : far < (far / suc n + 1) * suc n = (div-lt_iff_lt-mul some).0 (omega arith) in
    le_trans (le_of_lt over) (le_of_eq (mul_comm (far / suc n + 1) (suc n)))

pub steps_some : (shape : Shape) (u : ℤ) → 0 < steps_of shape u
unfolding steps_of
steps_some shape (pos zero) = omega arith
steps_some shape (pos (suc n)) = omega arith
steps_some shape (negsuc n) = omega arith

-- ---- an image's words add steps only where the sine is 0
abbrev no_rows : Shape
no_rows = shape_of 0 0

steps_more : (shape : Shape) (u : ℤ) → steps_of shape u ≤ 64 * size shape + steps_of no_rows u
unfolding steps_of
steps_more shape (pos zero) = omega arith
steps_more shape (pos (suc n)) = omega arith
steps_more shape (negsuc n) = omega arith

few_at : ℕ → Bool
few_at d = leb (steps_of no_rows (scaled_sine d)) (2 ^ 18)

few_pass : T (every few_at 360)
unfolding few_at steps_of sine_of scaled of_bits
few_pass = tt

-- ---- where the sine is 0 the cosine is 1 or -1
flat_at : ℕ → Bool
flat_at d = not (eqb (nat_abs (scaled_sine d)) 0) || eqb (nat_abs (scaled_cosine d)) (2 ^ 29)

flat_pass : T (every flat_at 360)
unfolding flat_at sine_of scaled of_bits
flat_pass = tt

flat_of : (m n : ℕ) → T (not (eqb m 0) || eqb n (2 ^ 29)) → m ≡ 0 → n ≡ 2 ^ 29
flat_of m n t e = eqb→eq n (2 ^ 29) (subst (λ (k : ℕ). T (not (eqb k 0) || eqb n (2 ^ 29))) e t)

-- ---- neither is above 1 in size
most_at : ℕ → Bool
most_at d = leb (nat_abs (scaled_sine d)) (2 ^ 29)

most_pass : T (every most_at 360)
unfolding most_at sine_of scaled of_bits
most_pass = tt

sine_most : (degree : ℕ) → nat_abs (scaled_sine degree) ≤ 2 ^ 29
unfolding most_at
sine_most degree = rw (← sine_mod degree) (leb→le _ (2 ^ 29) (every_at most_at 360 most_pass (degree % 360) (mod-lt degree (lit< tt))))

-- ---- at every degree
pub record Rules (angle : Angle) : Type 0 where
  pub sine : HasValue angle.sin (negative (scaled angle.sin)) (nat_abs (scaled angle.sin)) (2 ^ 29)
  pub cosine : HasValue angle.cos (negative (scaled angle.cos)) (nat_abs (scaled angle.cos)) (2 ^ 29)
  pub sine_unit : nat_abs (scaled angle.sin) ≤ 2 ^ 29
  pub cosine_unit : nat_abs (scaled angle.cos) ≤ 2 ^ 29
  pub flat : nat_abs (scaled angle.sin) ≡ 0 → nat_abs (scaled angle.cos) ≡ 2 ^ 29
  pub few : steps_right no_rows angle ≤ 2 ^ 18

module _ (degree : ℕ) where
  abbrev one : ℕ
  one = degree % 360

  rules_at : Rules (angle_of degree)
  unfolding few_at flat_at
  rules_at = record {
    sine = (sine_rules degree).whole;
    cosine = (sine_rules (degree + 90)).whole;
    sine_unit = sine_most degree;
    cosine_unit = sine_most (degree + 90);
    flat = rw (← sine_mod degree, ← sine_mod_add degree 90) (flat_of _ _ (every_at flat_at 360 flat_pass one (mod-lt degree (lit< tt))));
    few = rw (← sine_mod degree) (leb→le _ (2 ^ 18) (every_at few_at 360 few_pass one (mod-lt degree (lit< tt))));
  }

module _ {angle : Angle} (of : OfDegree angle) where
  pub rules : Rules angle
  rules = subst Rules (sym of.is) (rules_at of.degree)

  pub steps_few : {shape : Shape} → Limits shape → steps_right shape angle + 2 ^ 10 ≤ 2 ^ 20
  steps_few {shape} limits = omega (arith, steps_more shape (scaled angle.sin), rules.few, limits.words_most)

-- ---- the degrees that are walked
pub steps_at_7 : (shape : Shape) → steps_right shape (angle_of 7) < 17000
unfolding steps_of sine_of scaled of_bits
steps_at_7 shape = lit< tt

pub steps_at_97 : (shape : Shape) → steps_right shape (angle_of 97) < 17000
unfolding steps_of sine_of scaled of_bits
steps_at_97 shape = lit< tt

-- where the sine is 0 a thousand words alone take more than 47,000 steps; with fewer it is not 0, and no image's words add any
abbrev thousand_words : Shape
thousand_words = shape_of 64 1000

few_sloped : (shape : Shape) (u : ℤ) → steps_of thousand_words u < 47000 → steps_of shape u < 47000
unfolding steps_of
few_sloped shape (pos zero) h = absurd (omega arith)
few_sloped shape (pos (suc n)) h = h
few_sloped shape (negsuc n) h = h

fifth_at : ℕ → Bool
fifth_at i = eqb i 0 || eqb i 36 || ltb (steps_of thousand_words (scaled_sine (5 * i))) 47000

fifth_pass : T (every fifth_at 72)
unfolding fifth_at steps_of sine_of scaled of_bits
fifth_pass = tt

pub steps_at_fifth : (shape : Shape) (i : ℕ) → i < 72 → (i ≡ 0) ⊎ (i ≡ 36) ⊎ (steps_right shape (angle_of (5 * i)) < 47000)
unfolding fifth_at
steps_at_fifth shape i h = go (eqb i 0) (eqb i 36) refl refl (every_at fifth_at 72 fifth_pass i h)
  where
    few : Bool
    few = ltb (steps_of thousand_words (scaled_sine (5 * i))) 47000

    go : (a b : Bool) → eqb i 0 ≡ a → eqb i 36 ≡ b → T (a || b || few) → (i ≡ 0) ⊎ (i ≡ 36) ⊎ (steps_right shape (angle_of (5 * i)) < 47000)
    go true b e f t = inl (eqb-true i 0 e)
    go false true e f t = inr (inl (eqb-true i 36 f))
    go false false e f t = inr (inr (few_sloped shape (scaled_sine (5 * i)) (ltb→lt _ 47000 t)))
