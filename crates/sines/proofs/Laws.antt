-- The rules of the table hold at every degree (`sine_rules`): each is one test that antt computes over the 360 entries. And a degree counts modulo 360
-- (`sine_mod`). Assumes nothing.
use Rattle.std.specs.Prelude.{◌≡◌, Bool, false, ◌&&◌, ℕ, ◌+◌, ◌*◌, ◌%◌, ◌^◌, ◌<◌, T, eqb, leb, ℤ, pos, negsuc, nat_abs, ◌+ℤ◌, ◌-ℤ◌, ◌*ℤ◌, Float}
use Rattle.std.proofs.Common.{sym, ◌∙◌, mod-lt, eqb→eq, leb→le, lit<}
use Rattle.std.proofs.Math.Path.{ap, subst}
use Rattle.std.specs.Bool.{beq}
use Rattle.std.proofs.Math.Nat.{mod-mod, mod-add-mod}
use Rattle.std.proofs.Math.IntN.{neg_ℤ}
use Rattle.std.specs.Float.{nan, inf, fin}
use Rattle.std.specs.Float.Ieee.{up, down, of_bits}
use Rattle.std.specs.Float.Ieee.Fits.{and_l, and_r}
use Rattle.std.specs.Float.Ieee.Exact.{HasValue}
use Rattle.sines.specs.Sines.{sine_of}
use Rattle.reads.specs.EveryLaws.{every, every_at, same_truth}
use Rattle.sines.specs.Laws.{scaled, scaled_sine, scaled_cosine, negative, slack, Near, SineRules}

-- ---- a degree counts modulo 360
below_turn : (degree : ℕ) → degree % 360 < 360
below_turn degree = mod-lt degree (lit< tt)

pub sine_mod_add : (degree j : ℕ) → sine_of (degree % 360 + j) ≡ sine_of (degree + j)
unfolding sine_of
sine_mod_add degree j = rw mod-add-mod

pub sine_mod : (degree : ℕ) → sine_of (degree % 360) ≡ sine_of degree
unfolding sine_of
sine_mod degree = rw mod-mod

-- ---- scaled by 2 ^ 29 each is whole
whole_in : Float → Bool
whole_in nan = false
whole_in (inf s) = false
whole_in (fin s m e) = beq s (negative (scaled (fin s m e))) && eqb (m * up e * 2 ^ 29) (nat_abs (scaled (fin s m e)) * down e)

has_scaled : (x : Float) → T (whole_in x) → HasValue x (negative (scaled x)) (nat_abs (scaled x)) (2 ^ 29)
unfolding whole_in
has_scaled nan t = t
has_scaled (inf s) t = t
has_scaled (fin s m e) t =
    let u = scaled (fin s m e) in
    let same = beq s (negative u) in
    let even = eqb (m * up e * 2 ^ 29) (nat_abs u * down e) in
    (same_truth s (negative u) (and_l same even t), eqb→eq (m * up e * 2 ^ 29) (nat_abs u * down e) (and_r same even t))

whole_at : ℕ → Bool
whole_at d = whole_in (sine_of d)

whole_passes : T (every whole_at 360)
unfolding whole_at whole_in scaled sine_of of_bits
whole_passes = tt

-- ---- half a turn on, the sign changes
equal : ℤ → ℤ → Bool
equal (pos a) (pos b) = eqb a b
equal (pos a) (negsuc b) = false
equal (negsuc a) (pos b) = false
equal (negsuc a) (negsuc b) = eqb a b

equal→eq : (x y : ℤ) → T (equal x y) → x ≡ y
unfolding equal
equal→eq (pos a) (pos b) t = ap pos (eqb→eq a b t)
equal→eq (pos a) (negsuc b) t = absurd t
equal→eq (negsuc a) (pos b) t = absurd t
equal→eq (negsuc a) (negsuc b) t = ap negsuc (eqb→eq a b t)

half_turn_at : ℕ → Bool
half_turn_at d = equal (scaled_sine (d + 180)) (neg_ℤ (scaled_sine d))

half_turn_passes : T (every half_turn_at 360)
unfolding half_turn_at equal scaled sine_of of_bits
half_turn_passes = tt

-- ---- the squares, and the next sine
near : ℤ → ℤ → Bool
near a b = leb (nat_abs (a -ℤ b)) slack

near→Near : (a b : ℤ) → T (near a b) → Near a b
unfolding near
near→Near a b t = leb→le (nat_abs (a -ℤ b)) slack t

squares_at : ℕ → Bool
squares_at d = near (scaled_sine d *ℤ scaled_sine d +ℤ scaled_cosine d *ℤ scaled_cosine d) (pos (2 ^ 58))

squares_pass : T (every squares_at 360)
unfolding squares_at near scaled sine_of of_bits
squares_pass = tt

next_at : ℕ → Bool
next_at d = near (scaled_sine (d + 1) *ℤ pos (2 ^ 29)) (scaled_sine d *ℤ scaled_cosine 1 +ℤ scaled_cosine d *ℤ scaled_sine 1)

next_passes : T (every next_at 360)
unfolding next_at near scaled sine_of of_bits
next_passes = tt

-- ---- the rules at every degree, from those at the degree cut to one turn
module _ (degree : ℕ) where
  abbrev one : ℕ
  one = degree % 360

  pub sine_rules : SineRules degree
  unfolding whole_at half_turn_at squares_at next_at
  sine_rules = record {
    whole = subst (λ (x : Float). HasValue x (negative (scaled x)) (nat_abs (scaled x)) (2 ^ 29)) (sine_mod degree)
        (has_scaled (sine_of one) (every_at whole_at 360 whole_passes one (below_turn degree)));
    half_turn =
        let s = every_at half_turn_at 360 half_turn_passes one (below_turn degree) in
        ap scaled (sym (sine_mod_add degree 180)) ∙ equal→eq (scaled_sine (one + 180)) (neg_ℤ (scaled_sine one)) s
        ∙ ap (λ (x : Float). neg_ℤ (scaled x)) (sine_mod degree);
    squares = rw (← sine_mod degree, ← sine_mod_add degree 90) (near→Near _ _ (every_at squares_at 360 squares_pass one (below_turn degree)));
    next = rw (← sine_mod degree, ← sine_mod_add degree 90, ← sine_mod_add degree 1) (near→Near _ _ (every_at next_at 360 next_passes one (below_turn degree)));
  }
