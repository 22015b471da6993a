-- The whole part of a value of binary32 below 2 ^ 28, in the bit pattern of 2 ^ 28 more at binary64. And the sign, cleared in the pattern. Assumes nothing.
use Rattle.std.proofs.Common.{◌≡◌, ℕ, zero, suc, ◌+◌, ◌-◌, ◌*◌, ◌/◌, ◌%◌, ◌^◌, ◌<◌, ◌≤◌, Bool, true, false, cond, not, T, ℤ, pos, negsuc, sym, refl, ap, ◌∙◌, subst, ⊎_elim, le_trans, le_of_eq, lt_of_lt_of_le, mod-lt, mul_assoc, div-lt_iff_lt-mul, mul-lt-mul_of_pos_right, le-div_iff_mul-le, mul_right_comm, le_of_mul-le-mul_right, arith, ltb→lt, pow_pos, pow_mono, pow-add, shl_lt, mul-le-mul_right, lt_of_mul-lt-mul_right, lt_of_le_of_lt, Float}
use Rattle.std.proofs.Math.Nat.{eq_of_mul-eq-mul_right}
use Rattle.std.specs.Float.Ieee.{prec, low, hid, up, down, round, sum, add, lt, le, fits, is_nan, nan_bits, of_bits, to_bits, to_unsigned}
use Rattle.std.specs.Float.{nan, inf, fin, Format, binary32, binary64}
use lib.Ieee.Bits.{of_bits-to_bits, to_bits-lt, nan_bits_is}
use lib.Ieee.Exact.{HasValue, round_exact}
use lib.Ieee.Fits.{two, reach, down_pos, add-fits}
use lib.Ieee.Order.{round_mono}
use lib.Ieee.Positive.{positive, num, den, den_pos, own_value, positive_of_value, values_of_le, between, value→cross}
use Rattle.ieee.specs.Sign.{abs}
use Rattle.ieee.proofs.Bounds.{bounds}
use Rattle.ieee.proofs.Fields.{digits, places, InFields, plain_fields, positive_not_nan}
use Rattle.ieee.proofs.Numbers.{le_or_lt, exponent_lt}

-- ---- numbers: a / c is d * 2 ^ h units of 2 ^ -l
module _ (a c d h l : ℕ) (p : 0 < c) (value : a * 2 ^ l ≡ d * 2 ^ h * c) where
  below_power : (n w : ℕ) → 2 ^ n ≤ d → a < 2 ^ w * c → n + h < w + l
  below_power n w many less =
      let scaled : d * 2 ^ h * c < 2 ^ w * 2 ^ l * c =
      subst (λ (k : ℕ). k < 2 ^ w * 2 ^ l * c) value
      (lt_of_lt_of_le (mul-lt-mul_of_pos_right less (pow_pos l)) (le_of_eq (mul_right_comm (2 ^ w) c (2 ^ l)))) in
      let units : 2 ^ n * 2 ^ h < 2 ^ w * 2 ^ l = lt_of_le_of_lt (mul-le-mul_right (2 ^ h) many) (lt_of_mul-lt-mul_right c scaled) in
      exponent_lt (n + h) (w + l) (rw (pow-add 2 n h, pow-add 2 w l) units)

  above_power : (n v : ℕ) → d < 2 ^ n → 2 ^ v * c ≤ a → v + l < n + h
  above_power n v few more =
      let scaled : 2 ^ v * 2 ^ l * c ≤ d * 2 ^ h * c =
      le_trans (le_of_eq (mul_right_comm (2 ^ v) (2 ^ l) c)) (le_trans (mul-le-mul_right (2 ^ l) more) (le_of_eq value)) in
      let units : 2 ^ v * 2 ^ l < 2 ^ n * 2 ^ h = lt_of_le_of_lt (le_of_mul-le-mul_right scaled p) (mul-lt-mul_of_pos_right few (pow_pos h)) in
      exponent_lt (v + l) (n + h) (rw (pow-add 2 v l, pow-add 2 n h) units)

-- ---- numbers: m / d, with an m of 24 digits, lies 2 ^ -24 or more below the next whole number
gap : (m d : ℕ) → 0 < d → m < 2 ^ 24 → m * 2 ^ 24 + d ≤ (m / d + 1) * 2 ^ 24 * d
gap m d p few = ⊎_elim
    (λ l.
    let next : m < (m / d + 1) * d = (div-lt_iff_lt-mul p).0 (omega arith) in
    omega arith)
    (λ l. omega arith)
    (le_or_lt d (2 ^ 24))

below_next : (m : ℕ) (e : ℤ) → m < 2 ^ 24 → m * up e * 2 ^ 24 + down e ≤ (m * up e / down e + 1) * 2 ^ 24 * down e
below_next m (pos k) few = omega arith
below_next m (negsuc k) few = gap (m * 1) (2 ^ suc k) (pow_pos (suc k)) (omega arith)

-- the same factor 2 ^ j taken away
lowered : (a c d j k l : ℕ) → l ≡ k + j → a * 2 ^ l ≡ d * 2 ^ j * c → a * 2 ^ k ≡ d * c
lowered a c d j k l e h =
    eq_of_mul-eq-mul_right (2 ^ j) (pow_pos j) (a * 2 ^ k) (d * c)
    (mul_assoc a (2 ^ k) (2 ^ j) ∙ ap (λ (z : ℕ). a * z) (sym (pow-add 2 k j) ∙ ap (λ (z : ℕ). 2 ^ z) (sym e)) ∙ h ∙ mul_right_comm d (2 ^ j) c)

-- ---- t is 2 ^ 28 + n and a part of one, in units of 2 ^ -24
record Pinned (n : ℕ) (t : Float) : Type 0 where
  above : T (positive t)
  least : (2 ^ 28 + n) * 2 ^ 24 * den t ≤ num t * 2 ^ 24
  most : num t * 2 ^ 24 ≤ ((2 ^ 28 + n) * 2 ^ 24 + (2 ^ 24 - 1)) * den t

-- binary64 has these units there
exact : (q : ℕ) → q < 2 ^ 53 → HasValue (round binary64 false q (2 ^ 24)) false q (2 ^ 24)
exact q h =
    round_exact binary64 false q (2 ^ 24) q 1050 (pow_pos 24) h (lt_of_lt_of_le (shl_lt 53 1050 h) (pow_mono {i = 1103} {j = 2098} (omega arith)))
    (ap (λ (z : ℕ). q * z) (pow-add 2 1050 24) ∙ sym (mul_assoc q (2 ^ 1050) (2 ^ 24)))

module _ (n a d : ℕ) (p : 0 < d) (small : n < 2 ^ 28) (under : n * d ≤ a) (over : a * 2 ^ 24 + d ≤ (n + 1) * 2 ^ 24 * d) where
  abbrev moved : Float
  moved = round binary64 false (a * 1 + 1 * 2 ^ 28 * d) (d * 1)

  abbrev first : Float
  first = round binary64 false ((2 ^ 28 + n) * 2 ^ 24) (2 ^ 24)

  abbrev last : Float
  last = round binary64 false ((2 ^ 28 + n) * 2 ^ 24 + (2 ^ 24 - 1)) (2 ^ 24)

  pinned : Pinned n moved
  pinned =
      let one : 0 < d * 1 = omega arith in
      let low = exact ((2 ^ 28 + n) * 2 ^ 24) (omega arith) in
      let high = exact ((2 ^ 28 + n) * 2 ^ 24 + (2 ^ 24 - 1)) (omega arith) in
      let from = positive_of_value first _ _ low (omega arith) in
      let to = positive_of_value last _ _ high (omega arith) in
      let more : T (le first moved) = round_mono binary64 _ (2 ^ 24) _ (d * 1) (pow_pos 24) one (omega arith) in
      let less : T (le moved last) = round_mono binary64 _ (d * 1) _ (2 ^ 24) one (pow_pos 24) (omega arith) in
      let here = between first moved last from to more less in
      let own = own_value moved here in
      record {
        above = here;
        least = values_of_le first moved _ (2 ^ 24) _ (den moved) from here low own more;
        most = values_of_le moved last _ (den moved) _ (2 ^ 24) here to own high less;
      }

-- ---- the pattern of a t from 2 ^ w to below 2 ^ (w + 1) counts 2 ^ -k, in a format of w + 1 + k digits
twice_hid : (f : Format) → 2 ^ prec f ≡ 2 * hid f
twice_hid binary32 = refl
twice_hid binary64 = refl

module _ (f : Format) (t : Float) (fit : T (fits f t)) (above : T (positive t)) (w k : ℕ) (long : prec f ≡ suc (w + k)) where
  pub counted : 2 ^ w * den t ≤ num t → num t < 2 ^ suc w * den t → num t * 2 ^ k ≡ (hid f + to_bits f t % hid f) * den t
  counted from to = go (to_bits f t / hid f) (to_bits f t % hid f) (mod-lt (to_bits f t) (pow_pos (prec f - 1))) (plain_fields f t fit above).fields
    where
      cross : (y r : ℕ) → InFields f t false y r → num t * 2 ^ low f ≡ digits f y r * 2 ^ places y * den t
      cross y r fields = value→cross t (digits f y r * 2 ^ places y) (2 ^ low f) fields.value

      go : (y r : ℕ) → r < hid f → InFields f t false y r → num t * 2 ^ k ≡ (hid f + r) * den t
      go zero r few fields = absurd
          (omega (arith, two f, reach f, above_power (num t) (den t) r 0 (low f) (den_pos t) (cross 0 r fields) (prec f - 1) w few from))
      go (suc y) r few fields =
          let d = hid f + r in
          let value : num t * 2 ^ low f ≡ d * 2 ^ y * den t = cross (suc y) r fields in
          let least : w + low f < prec f + y = above_power (num t) (den t) d y (low f) (den_pos t) value (prec f) w (omega (arith, twice_hid f)) from in
          let most : prec f - 1 + y < suc w + low f = below_power (num t) (den t) d y (low f) (den_pos t) value (prec f - 1) (suc w) (omega arith) to in
          lowered (num t) (den t) d y k (low f) (omega arith) value

-- so the pattern of 2 ^ 28 + n and a part of one has n in the digits from 24 on
in_digits : (n : ℕ) (t : Float) → T (fits binary64 t) → n < 2 ^ 28 → Pinned n t → to_bits binary64 t / 2 ^ 24 % 2 ^ 28 ≡ n
in_digits n t fit small is =
    let limit : (2 ^ 28 + n) * 2 ^ 24 + (2 ^ 24 - 1) < 2 ^ 53 = omega arith in
    let to : num t < 2 ^ 29 * den t = omega (arith, is.most, mul-lt-mul_of_pos_right limit (den_pos t)) in
    let d = 2 ^ 52 + to_bits binary64 t % 2 ^ 52 in
    let units : num t * 2 ^ 24 ≡ d * den t = counted binary64 t fit is.above 28 24 refl (omega (arith, is.least)) to in
    let least : (2 ^ 28 + n) * 2 ^ 24 ≤ d = le_of_mul-le-mul_right (le_trans is.least (le_of_eq units)) (den_pos t) in
    let most : d ≤ (2 ^ 28 + n) * 2 ^ 24 + (2 ^ 24 - 1) = le_of_mul-le-mul_right (le_trans (le_of_eq (sym units)) is.most) (den_pos t) in
    omega arith

-- ---- the sign, cleared in the pattern
resigned : (s z : Bool) (m : ℕ) (e : ℤ) → T (fits binary32 (fin s m e)) → T (fits binary32 (fin z m e))
unfolding fits
resigned s z zero e t = t
resigned s z (suc m) e t = t

grouped : (t k r : ℕ) → t + k + r ≡ t + (0 + k + r)
grouped t k r = omega arith

signed_bits : (s : Bool) (m : ℕ) (e : ℤ) → to_bits binary32 (fin s m e) ≡ cond s (2 ^ 31) 0 + to_bits binary32 (fin false m e)
unfolding to_bits
signed_bits true m e = grouped (2 ^ 31) _ _
signed_bits false m e = grouped 0 _ _

sign_off : (s : Bool) (m : ℕ) (e : ℤ) → T (fits binary32 (fin s m e)) → to_bits binary32 (fin s m e) % 2 ^ 31 ≡ to_bits binary32 (fin false m e)
sign_off s m e t = go s
  where
    room : to_bits binary32 (fin false m e) < 2 ^ 31
    room = omega (arith, to_bits-lt binary32 (fin true m e) (resigned s true m e t), signed_bits true m e)

    go : (s : Bool) → to_bits binary32 (fin s m e) % 2 ^ 31 ≡ to_bits binary32 (fin false m e)
    go true = omega (arith, room, signed_bits true m e)
    go false = omega (arith, room)

pub cleared_abs : (x : Float) → T (fits binary32 x) → T (not (is_nan x)) → of_bits binary32 (to_bits binary32 x % 2 ^ 31) ≡ abs x
unfolding abs is_nan
cleared_abs nan t h = absurd h
cleared_abs (inf true) t h = unfold to_bits of_bits in refl
cleared_abs (inf false) t h = unfold to_bits of_bits in refl
cleared_abs (fin s m e) t h = ap (of_bits binary32) (sign_off s m e t) ∙ of_bits-to_bits binary32 (fin false m e) (resigned s false m e t)

abs_number : (x : Float) → T (not (is_nan x)) → T (not (is_nan (abs x)))
unfolding abs is_nan
abs_number nan h = absurd h
abs_number (inf s) h = tt
abs_number (fin s m e) h = tt

pub cleared_number : (x : Float) → T (fits binary32 x) → T (not (is_nan x)) → T (not (nan_bits binary32 (to_bits binary32 x % 2 ^ 31)))
cleared_number x t h = subst (λ (b : Bool). T (not b)) (sym (nan_bits_is binary32 _ ∙ ap is_nan (cleared_abs x t h))) (abs_number x h)

-- ---- what the program meets on its way
abbrev pub more : Float → Float
more y = add binary64 y (fin false 1 (pos 28))

pub record Below (x : Float) : Type 0 where
  pub number : T (not (is_nan x))
  pub more_number : T (not (is_nan (more (abs x))))
  pub whole : to_bits binary64 (more (abs x)) / 2 ^ 24 % 2 ^ 28 ≡ to_unsigned 32 (abs x)

pub below : (x : Float) → T (fits binary32 x) → T (lt (abs x) (fin false 1 (pos 28))) → Below x
unfolding lt abs is_nan add sum to_unsigned
below nan t h = absurd h
below (inf s) t h = absurd h
below (fin s m e) t h =
    let d = down e in
    let n = m * up e / d in
    let limit : m * up e < 2 ^ 28 * d = omega (arith, ltb→lt (m * up e * 1) (1 * 2 ^ 28 * d) h) in
    let small : n < 2 ^ 28 = (div-lt_iff_lt-mul (down_pos e)).1 limit in
    let under : n * d ≤ m * up e = (le-div_iff_mul-le (down_pos e)).0 (omega arith) in
    let y = more (fin false m e) in
    let is : Pinned n y = pinned n (m * up e) d (down_pos e) small under (below_next m e (bounds binary32 s m e t).digits) in
    record {
      number = tt;
      more_number = positive_not_nan y is.above;
      whole = in_digits n y (add-fits binary64 (fin false m e) (fin false 1 (pos 28))) small is ∙ omega arith;
    }
