-- A finite value in units of its format, 2 ^ -low: the whole number that `units_of` gives is exact, has no more digits than the format keeps, and is
-- bounded. Assumes nothing.
use Rattle.std.proofs.Common.{◌≡◌, ℕ, suc, ◌+◌, ◌-◌, ◌*◌, ◌/◌, ◌^◌, ◌<◌, ◌≤◌, Bool, true, false, cond, T, ℤ, pos, negsuc, sym, refl, ap, ◌∙◌, subst, le_of_eq, lt_of_lt_of_le, lt_of_le_of_lt, mul_assoc, mul_comm, lt_of_mul-lt-mul_right, mul-lt-mul_of_pos_right, mul-one, mul_right_comm, mul-div_cancel, arith, pow_pos, pow-add, Float}
use Rattle.std.specs.Float.Ieee.{prec, emax, low, up, down, round, fits, hid, top, to_bits, of_bits, size}
use Rattle.std.specs.Float.{nan, inf, fin, Format}
use lib.Ieee.Bits.{of_bits-to_bits}
use lib.Ieee.Exact.{HasValue, round_exact}
use lib.Ieee.Fits.{down_pos}
use lib.Ieee.Positive.{positive}
use Rattle.ieee.specs.Units.{units_of}
use Rattle.ieee.proofs.Numbers.{exponent_le}
use Rattle.ieee.proofs.Bounds.{Bounds, bounds}

pub units_of_value : (f : Format) (x : Float) (s : Bool) (a : ℕ) → HasValue x s a (2 ^ low f) → units_of f x ≡ a
unfolding units_of
units_of_value f nan s a v = absurd v
units_of_value f (inf t) s a v = absurd v
units_of_value f (fin t m e) s a v = ap (λ (k : ℕ). k / down e) v.1 ∙ mul-div_cancel a (down_pos e)

zero_first : (a b : ℕ) → 0 + a + b ≡ a + b
zero_first a b = omega arith

-- the bit pattern of a value that is not negative, by its units alone
pub bits_of_units : (f : Format) (x : Float) (a : ℕ) → HasValue x false a (2 ^ low f) → to_bits f x ≡ (size a - prec f) * hid f + a / 2 ^ (size a - prec f)
unfolding to_bits units_of
bits_of_units f nan a v = absurd v
bits_of_units f (inf s) a v = absurd v
bits_of_units f (fin s m e) a v =
    let same : m * up e * 2 ^ low f / down e ≡ a = units_of_value f (fin s m e) false a v in
    ap (λ (b : Bool). cond b (top f) 0 + (size (m * up e * 2 ^ low f / down e) - prec f) * hid f + m * up e * 2 ^ low f / down e / 2 ^
    (size (m * up e * 2 ^ low f / down e) - prec f)) v.0
    ∙ ap (λ (n : ℕ). 0 + (size n - prec f) * hid f + n / 2 ^ (size n - prec f)) same
    ∙ zero_first ((size a - prec f) * hid f) (a / 2 ^ (size a - prec f))

-- so it is its units' only one
pub units_injective : (f : Format) (x y : Float) → T (fits f x) → T (fits f y) → HasValue x false (units_of f x) (2 ^ low f)
    → HasValue y false (units_of f y) (2 ^ low f) → units_of f x ≡ units_of f y → x ≡ y
units_injective f x y s t v w e =
    sym (of_bits-to_bits f x s)
    ∙ ap (of_bits f) (bits_of_units f x (units_of f x) v ∙ ap (λ (a : ℕ). (size a - prec f) * hid f + a / 2 ^ (size a - prec f)) e
    ∙ sym (bits_of_units f y (units_of f y) w))
    ∙ of_bits-to_bits f y t

-- ---- a value that fits is digits and places of units
whole_units : (f : Format) (m : ℕ) (e : ℤ) → Bounds f m e → (j : ℕ) × (m * up e * 2 ^ low f ≡ m * 2 ^ j * down e)
whole_units f m (pos k) b = (
  k + low f,
  mul_assoc m (2 ^ k) (2 ^ low f) ∙ ap (λ (x : ℕ). m * x) (sym (pow-add 2 k (low f)))
      ∙ sym (mul-one (m * 2 ^ (k + low f))),
)
whole_units f m (negsuc k) b =
    let l = low f in
    let within : suc k ≤ l = exponent_le (suc k) l b.fine in
    let all : l - suc k + suc k ≡ l = omega arith in (
      l - suc k,
      ap (λ (x : ℕ). x * 2 ^ l) (mul-one m)
          ∙ ap (λ (x : ℕ). m * x) (ap (λ (x : ℕ). 2 ^ x) (sym all) ∙ pow-add 2 (l - suc k) (suc k))
          ∙ sym (mul_assoc m (2 ^ (l - suc k)) (2 ^ suc k)),
    )

exact_units : (f : Format) (s : Bool) (m : ℕ) (e : ℤ) → T (fits f (fin s m e)) → HasValue (fin s m e) s (units_of f (fin s m e)) (2 ^ low f)
exact_units f s m e t =
    let h = whole_units f m e (bounds f s m e t) in
    let same : units_of f (fin s m e) ≡ m * 2 ^ h.0 = units_of_value f (fin s m e) s (m * 2 ^ h.0) (refl, h.1) in
    (refl, h.1 ∙ ap (λ (x : ℕ). x * down e) (sym same))

pub record UnitsForm (f : Format) (n : ℕ) : Type 0 where
  pub digits : ℕ
  pub places : ℕ
  pub few : digits < 2 ^ prec f
  pub is : n ≡ digits * 2 ^ places

pub units_form : (f : Format) (x : Float) → T (fits f x) → UnitsForm f (units_of f x)
unfolding units_of
units_form f nan t = record { digits = 0; places = 0; few = pow_pos (prec f); is = refl }
units_form f (inf s) t = record { digits = 0; places = 0; few = pow_pos (prec f); is = refl }
units_form f (fin s m e) t =
    let b = bounds f s m e t in
    let h = whole_units f m e b in
    record { digits = m; places = h.0; few = b.digits; is = units_of_value f (fin s m e) s (m * 2 ^ h.0) (refl, h.1) }

-- ---- a positive value
pub positive_value : (f : Format) (x : Float) → T (fits f x) → T (positive x) → HasValue x false (units_of f x) (2 ^ low f)
positive_value f nan t p = absurd p
positive_value f (inf s) t p = absurd p
positive_value f (fin true m e) t p = absurd p
positive_value f (fin false m e) t p = exact_units f false m e t

few_units : (f : Format) (m : ℕ) (e : ℤ) (n : ℕ) → Bounds f m e → m * up e * 2 ^ low f ≡ n * down e → n < 2 ^ suc (emax f) * 2 ^ low f
few_units f m e n b same =
    lt_of_mul-lt-mul_right (down e)
    (lt_of_le_of_lt (le_of_eq (sym same))
    (lt_of_lt_of_le (mul-lt-mul_of_pos_right b.finite (pow_pos (low f))) (le_of_eq (mul_right_comm (2 ^ suc (emax f)) (down e) (2 ^ low f)))))

pub under : (f : Format) (x : Float) → T (fits f x) → T (positive x) → units_of f x < 2 ^ suc (emax f) * 2 ^ low f
under f nan t p = absurd p
under f (inf s) t p = absurd p
under f (fin s m e) t p = few_units f m e (units_of f (fin s m e)) (bounds f s m e t) (exact_units f s m e t).1

-- ---- a value that fits is rounded to itself, with either sign
pub round_own : (f : Format) (s z : Bool) (m : ℕ) (e : ℤ) → T (fits f (fin s m e)) → HasValue (round f z (m * up e) (down e)) z (m * up e) (down e)
round_own f s z m e t =
    let b = bounds f s m e t in
    let h = whole_units f m e b in
    let room : 2 ^ suc (emax f) * 2 ^ low f ≡ 2 ^ (low f + suc (emax f)) = mul_comm (2 ^ suc (emax f)) (2 ^ low f) ∙ sym (pow-add 2 (low f) (suc (emax f))) in
    round_exact f z (m * up e) (down e) m h.0 (down_pos e) b.digits
    (subst (λ (n : ℕ). m * 2 ^ h.0 < n) room (few_units f m e (m * 2 ^ h.0) b h.1)) h.1
