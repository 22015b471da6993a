-- What `fits` says of a finite value m * 2 ^ e. Assumes nothing.
use Rattle.std.proofs.Common.{◌≡◌, ℕ, zero, suc, ◌*◌, ◌^◌, ◌<◌, ◌≤◌, Bool, T, ℤ, pos, negsuc, sym, refl, ◌∙◌, subst, mul-pos, one-mul, mul-one, arith, eqb→eq, ltb→lt, leb→le, pow_pos}
use Rattle.std.specs.Float.Ieee.{prec, emax, low, up, down, fits}
use Rattle.std.specs.Float.{fin, Format}
use lib.Ieee.Fits.{and_l, and_r, down_pos}

-- a zero that fits has the exponent 0
pub one_unit : (e : ℤ) → up e * down e ≡ 1 → e ≡ pos 0
one_unit (pos zero) h = refl
one_unit (pos (suc k)) h = absurd (omega (arith, pow_pos k, sym (mul-one (2 ^ suc k)) ∙ h))
one_unit (negsuc k) h = absurd (omega (arith, pow_pos k, sym (one-mul (2 ^ suc k)) ∙ h))

pub record Bounds (f : Format) (m : ℕ) (e : ℤ) : Type 0 where
  pub digits : m < 2 ^ prec f
  pub fine : down e ≤ 2 ^ low f
  pub finite : m * up e < 2 ^ suc (emax f) * down e

zero_finite : (a b c d : ℕ) → 0 < c → 0 < d → a ≡ 0 → a * b < c * d
zero_finite a b c d p q h = rw h (omega (arith, mul-pos p q))

pub bounds : (f : Format) (s : Bool) (m : ℕ) (e : ℤ) → T (fits f (fin s m e)) → Bounds f m e
unfolding fits
bounds f s zero e t =
    let at : e ≡ pos 0 = one_unit e (eqb→eq (up e * down e) 1 t) in
    record {
      digits = pow_pos (prec f);
      fine = subst (λ (z : ℤ). down z ≤ 2 ^ low f) (sym at) (pow_pos (low f));
      finite = zero_finite 0 (up e) (2 ^ suc (emax f)) (down e) (pow_pos (suc (emax f))) (down_pos e) refl;
    }
bounds f s (suc m) e t =
    record {
      digits = ltb→lt (suc m) (2 ^ prec f) (search (and_l, and_r));
      fine = leb→le (down e) (2 ^ low f) (search (and_l, and_r));
      finite = ltb→lt (suc m * up e) (2 ^ suc (emax f) * down e) (search (and_l, and_r));
    }
