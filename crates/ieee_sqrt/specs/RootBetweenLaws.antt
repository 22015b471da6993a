-- The whole numbers between which a root lies. Assumes nothing.
use Rattle.std.specs.Prelude.{◌≡◌, refl, Bool, true, false, ℕ, zero, suc, ◌+◌, ◌*◌, ◌/◌, ◌^◌, ◌≤◌, ◌<◌, eqb, Float}
use Rattle.std.proofs.Common.{sym, ◌∙◌, true≢false, le_antisymm, lt_of_not-le, mul-le-mul, mul-le-mul_right, mul-pos, zero-lt-suc, le-div_iff_mul-le, arith, eq-eqb}
use Rattle.std.proofs.Math.Bool.{cond}
use Rattle.std.proofs.Math.Nat.{div-le_of_le-mul}
use Rattle.std.proofs.Math.Pow.{pow_pos}
use Rattle.std.specs.Float.{nan, inf, fin, Format}
use Rattle.std.specs.Float.Ieee.{prec, low, up, down}
use Rattle.std.specs.Float.Ieee.Fits.{down_pos}
use Rattle.ieee_sqrt.specs.Sqrt.{isqrt, round_root, sqrt}
use Rattle.ieee.specs.Units.{units_of}
use Rattle.ieee_sqrt.specs.IsqrtLaws.{IsRoot, isqrt_is, root_at_least, root_at_most}
use Rattle.ieee.specs.BetweenLaws.{Between, round_between}

module _ (f : Format) (l h u : ℕ) (H : h ≤ 2 ^ prec f) (under : l * l * 2 ^ low f ≤ u) (over : u ≤ h * h * 2 ^ low f) where
  abbrev n : ℕ
  n = u * 2 ^ low f

  abbrev w : ℕ
  w = isqrt n

  root : IsRoot n w
  root = isqrt_is n

  least : l * 2 ^ low f ≤ w
  least = root_at_least (l * 2 ^ low f) root (omega (arith, mul-le-mul_right (2 ^ low f) under))

  most : w ≤ h * 2 ^ low f
  most = root_at_most (h * 2 ^ low f) root (omega (arith, mul-le-mul_right (2 ^ low f) over))

  exact : h * 2 ^ low f ≤ w → w * w ≡ n
  exact k = le_antisymm root.below (omega (arith, mul-le-mul k k, mul-le-mul_right (2 ^ low f) over))

  -- the half beyond w stays under the whole number, since at it the root is exact
  half : 2 * w + cond (eqb (w * w) n) 0 1 ≤ h * (2 * 2 ^ low f)
  half = go (eqb (w * w) n) refl
    where
      go : (b : Bool) → eqb (w * w) n ≡ b → 2 * w + cond b 0 1 ≤ h * (2 * 2 ^ low f)
      go true e = omega (arith, most)
      go false e = omega (arith, lt_of_not-le (λ (k : h * 2 ^ low f ≤ w). true≢false (sym (eq-eqb (w * w) n (exact k)) ∙ e)))

  pub root_between : Between l h (round_root f n)
  unfolding round_root
  root_between = round_between f l h (2 * w + cond (eqb (w * w) n) 0 1) (2 * 2 ^ low f) (omega (arith, pow_pos (low f))) H (omega (arith, least)) half

no_root : (l d : ℕ) → 0 < d → l * l * d ≤ 0 → l * d ≤ 0
no_root zero d D h = omega arith
no_root (suc l) d D h = absurd (omega (arith, mul-pos (mul-pos (zero-lt-suc l) (zero-lt-suc l)) D))

pub sqrt_between : (f : Format) (x : Float) {l h : ℕ} → h ≤ 2 ^ prec f → Between (l * l) (h * h) x → Between l h (sqrt f x)
unfolding sqrt units_of
sqrt_between f nan H b = absurd b.plain
sqrt_between f (inf s) H b = absurd b.plain
sqrt_between f (fin true m e) H b = absurd (true≢false b.plain.0)
sqrt_between f (fin false zero e) {l} H b =
    record { plain = b.plain; low = omega (arith, no_root l (down e) (down_pos e) (omega (arith, b.low))); high = omega arith }
sqrt_between f (fin false (suc m) e) {l} {h} H b =
    root_between f l h (suc m * up e * 2 ^ low f / down e) H
    ((le-div_iff_mul-le (down_pos e)).1 (omega (arith, mul-le-mul_right (2 ^ low f) b.low)))
    (div-le_of_le-mul (down e) (omega (arith, mul-le-mul_right (2 ^ low f) b.high)))
