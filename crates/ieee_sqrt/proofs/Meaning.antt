-- `sqrt` is correctly rounded, in both formats (`sqrt_means`; `specs/CorrectlyRounded.antt` says what that is), and nothing else is (`root_unique`).
-- Assumes nothing.
use Rattle.std.proofs.Common.{ℕ, suc, ◌+◌, ◌-◌, ◌*◌, ◌/◌, ◌^◌, ◌≤◌, ◌<◌, le_trans, le_of_eq, le_antisymm, arith, ◌≡◌, sym, ap, ◌∙◌, subst, false, ◌⊎◌, ⊎_elim, T, pow_pos, pow_mono, Float}
use Rattle.std.proofs.Math.Nat.{pow-succ'}
use Rattle.std.specs.Float.Ieee.{prec, emax, low, units, fits}
use Rattle.std.specs.Float.{Format}
use lib.Ieee.Nearest.{closest}
use lib.Ieee.Exact.{HasValue, units_val}
use lib.Ieee.Fits.{two}
use lib.Ieee.Positive.{positive, value_pos}
use Rattle.ieee_sqrt.specs.Sqrt.{sqrt, isqrt, round_root}
use Rattle.ieee.specs.Units.{units_of}
use Rattle.ieee_sqrt.specs.CorrectlyRounded.{RootOf, NearestRoot}
use Rattle.ieee.proofs.Numbers.{Odd, le_or_lt}
use Rattle.ieee_sqrt.specs.IsqrtLaws.{IsRoot, isqrt_is}
use Rattle.ieee_sqrt.proofs.Rounded.{root_fits, doubled, round_doubled}
use Rattle.ieee.proofs.Units.{positive_value, under, units_of_value, UnitsForm, units_form, units_injective}
use Rattle.ieee_sqrt.proofs.Sqrt.{sqrt_positive}
use Rattle.ieee_sqrt.proofs.Halfway.{Kept, kept, spacing, Side}
use Rattle.ieee_sqrt.proofs.Range.{root_large, wide, Places, places, first_digits, no_overflow, root_small, far, all_digits, never_half_way}

pub sqrt_means : (f : Format) (x : Float) → T (fits f x) → T (positive x) → RootOf f x (sqrt f x)
sqrt_means f x fit plus = record {
  held = subst (λ (r : Float). T (fits f r)) (sym root_is) (root_fits f n);
  value = subst (λ (a : ℕ). HasValue (sqrt f x) false a (2 ^ l)) (sym in_units) valued;
  nearest = subst (NearestRoot f n) (sym in_units) (record { smaller = λ y t. (side y t).smaller; larger = λ y t. (side y t).larger });
}
  where
    l : ℕ
    l = low f

    n : ℕ
    n = units_of f x * 2 ^ low f

    w : ℕ
    w = isqrt (units_of f x * 2 ^ low f)

    root : IsRoot (units_of f x * 2 ^ low f) (isqrt (units_of f x * 2 ^ low f))
    root = isqrt_is (units_of f x * 2 ^ low f)

    large : 2 ^ prec f ≤ w
    large = root_large (prec f) (low f) (units_of f x) w (wide f)
        (value_pos x (units_of f x) (2 ^ low f) plus (pow_pos (low f)) (positive_value f x fit plus)) root

    at : Places (prec f) w
    at = places (prec f) w large

    k : ℕ
    k = at.k

    d : ℕ
    d = 2 ^ k

    h : ℕ
    h = doubled w n / (2 * (2 * d))

    q : ℕ
    q = closest (doubled w n) (2 * (2 * d))

    keeps : Kept n w d h q
    keeps = kept n w d (pow_pos k) root

    some : 1 ≤ prec f
    some = omega (arith, two f)

    first : 2 ^ (prec f - 1) ≤ h
    first = first_digits (prec f) k h w some at.low_w keeps.high

    root_is : sqrt f x ≡ round_root f n
    root_is = sqrt_positive f x plus

    units_is : sqrt f x ≡ units f false q (suc k)
    units_is =
        root_is
        ∙ round_doubled f n
        ∙ ap (λ (j : ℕ). units f false (closest (doubled w n) (2 * 2 ^ j)) j) at.is
        ∙ ap (λ (c : ℕ). units f false (closest (doubled w n) (2 * c)) (suc k)) (pow-succ' 2 k)

    unit_small : 2 * d ≤ w
    unit_small = le_trans (le_of_eq (sym (pow-succ' 2 k))) (le_trans (pow_mono (up_to some)) at.low_w)
      where
        up_to : 1 ≤ prec f → suc k ≤ prec f + k
        up_to h = omega arith

    fine : q * 2 ^ suc k < 2 ^ (low f + suc (emax f))
    fine =
        subst (λ (c : ℕ). q * c < 2 ^ (low f + suc (emax f))) (sym (pow-succ' 2 k))
        (no_overflow q h d w (2 ^ (low f + emax f)) (2 ^ (low f + suc (emax f))) keeps.near keeps.low unit_small
        (root_small (emax f) (low f) (units_of f x) w (far f) (under f x fit plus) root)
        (ap (λ (i : ℕ). 2 ^ i) (next (low f) (emax f)) ∙ pow-succ' 2 (low f + emax f)))
      where
        next : (a b : ℕ) → a + suc b ≡ suc (a + b)
        next a b = omega arith

    valued : HasValue (sqrt f x) false (q * (2 * d)) (2 ^ l)
    valued =
        subst (λ (r : Float). HasValue r false (q * (2 * d)) (2 ^ l)) (sym units_is)
        (subst (λ (c : ℕ). HasValue (units f false q (suc k)) false (q * c) (2 ^ l)) (pow-succ' 2 k) (units_val f false q (suc k) fine))

    in_units : units_of f (sqrt f x) ≡ q * (2 * d)
    in_units = units_of_value f (sqrt f x) false (q * (2 * d)) valued

    few : (a : ℕ) → a < 2 ^ prec f → a < 2 * 2 ^ (prec f - 1)
    few a t = subst (λ (c : ℕ). a < c) (all_digits (prec f) some) t

    mine : UnitsForm f (units_of f x)
    mine = units_form f x fit

    no : Odd h * d * (Odd h * d) ≡ n → ⊥
    no e = never_half_way (2 ^ (prec f - 1)) (low f) k h mine.digits mine.places (units_of f x) mine.is (few mine.digits mine.few) first e

    apart : (y : Float) → T (fits f y) → (units_of f y ≤ h * (2 * d)) ⊎ ((h + 1) * (2 * d) ≤ units_of f y)
    apart y t =
        let s = units_form f y t in
        subst (λ (v : ℕ). (v ≤ h * (2 * d)) ⊎ ((h + 1) * (2 * d) ≤ v)) (sym s.is)
        (subst (λ (c : ℕ). (s.digits * 2 ^ s.places ≤ h * c) ⊎ ((h + 1) * c ≤ s.digits * 2 ^ s.places)) (pow-succ' 2 k)
        (spacing (2 ^ (prec f - 1)) (suc k) h s.digits s.places (few s.digits s.few) first))

    side : (y : Float) → T (fits f y) → Side n (units_of f y) (q * (2 * d))
    side y t = keeps.side no (units_of f y) (apart y t)

-- ---- there is only one
pub root_unique : (f : Format) (x r t : Float) → RootOf f x r → RootOf f x t → r ≡ t
root_unique f x r t a b =
    units_injective f r t a.held b.held a.value b.value
    (le_antisymm (⊎_elim (λ l. l) (λ g. absurd (apart r t a b g)) (le_or_lt (units_of f r) (units_of f t)))
    (⊎_elim (λ l. l) (λ g. absurd (apart t r b a g)) (le_or_lt (units_of f t) (units_of f r))))
  where
    apart : (r t : Float) → RootOf f x r → RootOf f x t → units_of f t < units_of f r → ⊥
    apart r t a b l =
        let u = units_of f r in
        let v = units_of f t in
        let below : (v + u) * (v + u) < 4 * (units_of f x * 2 ^ low f) = a.nearest.smaller t b.held l in
        let above : 4 * (units_of f x * 2 ^ low f) < (u + v) * (u + v) = b.nearest.larger r a.held l in
        omega arith
