-- The digits and the exponent of a positive finite value, in units of the format's smallest value, as they stand in its bit pattern. Assumes nothing.
use Rattle.std.proofs.Common.{◌≡◌, ℕ, zero, suc, ◌+◌, ◌*◌, ◌/◌, ◌%◌, ◌^◌, ◌<◌, Bool, true, false, cond, not, T, eqb, leb, sym, refl, ap, subst, mod-eq_of_lt, arith, Float, to_bits}
use Rattle.std.proofs.Math.Dec.{nleb→lt}
use Rattle.std.proofs.lemmas.Bool.{eqb-false}
use Rattle.std.specs.Float.Ieee.{prec, low, hid, ones, top, odd, fits, is_nan, of_fields, of_bits}
use Rattle.std.specs.Float.{nan, inf, fin, Format}
use lib.Ieee.Exact.{HasValue, odd_sign}
use lib.Ieee.Bits.{of_bits-to_bits}
use lib.Ieee.Positive.{positive}

pub positive_not_nan : (x : Float) → T (positive x) → T (not (is_nan x))
unfolding is_nan
positive_not_nan nan p = absurd p
positive_not_nan (inf s) p = tt
positive_not_nan (fin s m e) p = tt

-- ---- the sign of a value
sign_of : (x : Float) (s : Bool) (a c : ℕ) → T (positive x) → HasValue x s a c → s ≡ false
sign_of nan s a c p v = absurd v
sign_of (inf t) s a c p v = absurd v
sign_of (fin true m e) s a c p v = absurd p
sign_of (fin false m e) s a c p v = sym v.0

-- ---- the fields
abbrev pub digits : Format → ℕ → ℕ → ℕ
digits f zero t = t
digits f (suc y) t = hid f + t

abbrev pub places : ℕ → ℕ
places zero = 0
places (suc y) = y

pub record InFields (f : Format) (x : Float) (s : Bool) (y t : ℕ) : Type 0 where
  pub value : HasValue x s (digits f y t * 2 ^ places y) (2 ^ low f)
  pub below : y ≡ ones f → ⊥

no_inf : (b s : Bool) → T (positive (cond b (inf s) nan)) → ⊥
no_inf true s p = p
no_inf false s p = p

in_fields : (f : Format) (s : Bool) (y t : ℕ) → T (positive (of_fields f s y t)) → InFields f (of_fields f s y t) s y t
unfolding of_fields
in_fields f s zero t p = record { value = odd_sign (prec f) s t 0 (low f); below = λ e. none f e }
  where
    none : (f : Format) → 0 ≡ ones f → ⊥
    none f e = omega arith
in_fields f s (suc y) t p = go (eqb (suc y) (ones f)) (eqb-false (suc y) (ones f)) p
  where
    go : (b : Bool) → (b ≡ false → suc y ≡ ones f → ⊥) → T (positive (cond b (cond (eqb t 0) (inf s) nan) (odd (prec f) s (hid f + t) y (low f))))
        → InFields f (cond b (cond (eqb t 0) (inf s) nan) (odd (prec f) s (hid f + t) y (low f))) s (suc y) t
    go true n p = absurd (no_inf (eqb t 0) s p)
    go false n p = record { value = odd_sign (prec f) s (hid f + t) y (low f); below = n refl }

-- ---- a positive value's pattern has no sign
below_top : (t b : ℕ) → leb t b ≡ false → b < t
below_top t b h = nleb→lt t b (subst (λ (k : Bool). T (not k)) (sym h) tt)

pub record PlainFields (f : Format) (x : Float) (b : ℕ) : Type 0 where
  pub unsigned : b < top f
  pub fields : InFields f x false (b / hid f) (b % hid f)

pub plain_fields : (f : Format) (x : Float) → T (fits f x) → T (positive x) → PlainFields f x (to_bits f x)
unfolding of_bits
plain_fields f x fit p =
    let b = to_bits f x in
    let s = leb (top f) b in
    let back : of_fields f s (b % top f / hid f) (b % hid f) ≡ x = of_bits-to_bits f x fit in
    let is : InFields f x s (b % top f / hid f) (b % hid f) =
    subst (λ (v : Float). InFields f v s (b % top f / hid f) (b % hid f)) back
    (in_fields f s (b % top f / hid f) (b % hid f) (subst (λ (v : Float). T (positive v)) (sym back) p)) in
    let plus : s ≡ false = sign_of x s _ (2 ^ low f) p is.value in
    let unsigned : b < top f = below_top (top f) b plus in
    let field : b % top f / hid f ≡ b / hid f = ap (λ (k : ℕ). k / hid f) (mod-eq_of_lt unsigned) in
    record {
      unsigned = unsigned;
      fields = subst (λ (t : Bool). InFields f x t (b / hid f) (b % hid f)) plus (subst (λ (y : ℕ). InFields f x s y (b % hid f)) field is);
    }
