-- `abs`, `floor` and `round_ties_to_away` of specs/ are std's words for them. Assumes nothing.
use Rattle.std.proofs.Common.{◌≡◌, ℕ, ◌+◌, ◌-◌, ◌*◌, ◌/◌, ◌%◌, ◌<◌, true, false, cond, zero, suc, refl, ap, ◌==◌, mod-lt, ne_eqb, arith}
use Rattle.std.proofs.lemmas.Nat.{div-add-mod'}
use Rattle.std.proofs.Math.Nat.{add-div_right, mul-add-div_right, div-eq_of_lt}
use Rattle.std.specs.Float.{Float, Format, nan, inf, fin, float_with_sign, round_with, float_round}
use Rattle.std.specs.Float as Std
use Rattle.std.specs.Float.Ieee.{up, down, round}
use lib.Ieee.Fits.{down_pos}
use Rattle.ieee.specs.Sign.{abs}
use Rattle.ieee.specs.Integral.{floor, round_ties_to_away}

pub std_abs : (x : Float) → float_with_sign false x ≡ abs x
unfolding abs float_with_sign
std_abs nan = refl
std_abs (inf s) = refl
std_abs (fin s m e) = refl

ceiling : (n d : ℕ) → 0 < d → (n + d - 1) / d ≡ n / d + cond (n % d == 0) 0 1
ceiling n d p = go (n % d) (div-add-mod' n d) (mod-lt n p)
  where
    go : (r : ℕ) → n / d * d + r ≡ n → r < d → (n + d - 1) / d ≡ n / d + cond (r == 0) 0 1
    go zero e l =
        let last : n + d - 1 ≡ n / d * d + (d - 1) = omega arith in
        let none : (d - 1) / d ≡ 0 = div-eq_of_lt (omega arith) in
        rw (last, mul-add-div_right p (n / d) (d - 1), none) refl
    go (suc r) e l =
        let last : n + d - 1 ≡ n / d * d + r + d = omega arith in
        let none : r / d ≡ 0 = div-eq_of_lt (omega arith) in
        let some : (suc r == 0) ≡ false = ne_eqb (suc r) 0 (λ e. omega arith) in
        rw (last, add-div_right (n / d * d + r) p, mul-add-div_right p (n / d) r, none, some) (omega arith)

pub std_floor : (f : Format) (x : Float) → Std.floor f x ≡ floor f x
unfolding floor round_with
std_floor f nan = refl
std_floor f (inf s) = refl
std_floor f (fin true m e) = ap (λ (n : ℕ). round f true n 1) (ceiling (m * up e) (down e) (down_pos e))
std_floor f (fin false m e) = refl

pub std_round : (f : Format) (x : Float) → float_round f x ≡ round_ties_to_away f x
unfolding round_ties_to_away round_with
std_round f nan = refl
std_round f (inf s) = refl
std_round f (fin true m e) = refl
std_round f (fin false m e) = refl
