-- Values that are finite, not negative, and lie between two whole numbers that the format counts: where a rounded fraction, a product,
-- a quotient, a sum, a difference and a cast lie.
-- Rounding moves no value past such a whole number. Assumes nothing.
use Rattle.std.specs.Prelude.{◌≡◌, ℕ, ◌+◌, ◌-◌, ◌*◌, ◌/◌, ◌^◌, ◌<◌, ◌≤◌, true, false, pos, nat_eq, refl, Float}
use Rattle.std.proofs.Common.{sym, ap, ap₂, ◌∙◌, true≢false, le_trans, mul_comm, mul-le-mul_right, le_of_mul-le-mul_right, mul-pos, le-div_iff_mul-le, arith, lit<, ne_eqb, le-ltb}
use Rattle.std.proofs.Math.Nat.{mul-sub, div-le_of_le-mul}
use Rattle.std.specs.Float.{nan, inf, fin, Format}
use Rattle.std.specs.Float.Ieee.{prec, up, down, round, neg, sum, add, sub, mul, div, of_int, to_unsigned, to_signed}
use Rattle.std.specs.Float.Ieee.Fits.{down_pos}
use Rattle.std.specs.Float.Ieee.Back.{round_whole}
use Rattle.std.specs.Float.Ieee.Order.{transfer, round_mono}
use Rattle.std.specs.Float.Ieee.Positive.{num, den, den_pos, value→cross}
use Rattle.ieee.specs.Integral.{floor}
use Rattle.ieee.specs.RoundLaws.{Plain, round_plain, crossed}

pub record Between (l h : ℕ) (x : Float) : Type 0 where
  pub plain : Plain x
  pub low : l * den x ≤ num x
  pub high : num x ≤ h * den x

-- ---- a fraction, rounded
module _ (f : Format) (l h a b : ℕ) (B : 0 < b) (H : h ≤ 2 ^ prec f) (under : l * b ≤ a) (over : a ≤ h * b) where
  abbrev rounded : Float
  rounded = round f false a b

  abbrev whole : ℕ → Float
  whole n = round f false n 1

  plain : Plain rounded
  plain = round_plain f h a b H B over

  ordered : l ≤ h
  ordered = le_of_mul-le-mul_right (le_trans under over) B

  whole_plain : (n : ℕ) → n ≤ h → Plain (whole n)
  whole_plain n k = round_plain f h n 1 H (lit< tt) (omega arith)

  exactly : (n : ℕ) → n ≤ h → num (whole n) * 1 ≡ n * den (whole n)
  exactly n k = value→cross (whole n) n 1 (round_whole f false n (le_trans k H))

  above : l * den rounded ≤ num rounded * 1
  above =
      transfer l (num rounded) 1 (den rounded) (num (whole l)) (num rounded) (den (whole l)) (den rounded) (den_pos (whole l)) (den_pos rounded)
      (sym (exactly l ordered)) refl
      ((crossed (whole l) rounded (whole_plain l ordered) plain).most (round_mono f l 1 a b (lit< tt) B (omega arith)))

  below : num rounded * 1 ≤ h * den rounded
  below =
      transfer (num rounded) h (den rounded) 1 (num rounded) (num (whole h)) (den rounded) (den (whole h)) (den_pos rounded) (den_pos (whole h))
      refl (sym (exactly h (omega arith)))
      ((crossed rounded (whole h) plain (whole_plain h (omega arith))).most (round_mono f a b h 1 B (lit< tt) (omega arith)))

  pub round_between : Between l h rounded
  round_between = record { plain = plain; low = omega (arith, above); high = omega (arith, below) }

-- a whole number, as a float
pub whole_between : (f : Format) (n : ℕ) → n ≤ 2 ^ prec f → Between n n (of_int f (pos n))
unfolding of_int
whole_between f n h = round_between f n n n 1 (lit< tt) h (omega arith) (omega arith)

-- ---- the product, with the whole numbers that it lies between
pub mul_between : (f : Format) (x y : Float) {l h lo hi : ℕ} → hi ≤ 2 ^ prec f → Between l h x → Plain y
    → lo * den y ≤ l * num y → h * num y ≤ hi * den y → Between lo hi (mul f x y)
unfolding mul
mul_between f nan y H b p u o = absurd b.plain
mul_between f (inf s) y H b p u o = absurd b.plain
mul_between f (fin true m e) y H b p u o = absurd (true≢false b.plain.0)
mul_between f (fin false m e) nan H b p u o = absurd p
mul_between f (fin false m e) (inf t) H b p u o = absurd p
mul_between f (fin false m e) (fin true n d) H b p u o = absurd (true≢false p.0)
mul_between f (fin false m e) (fin false n d) {lo = lo} {hi = hi} H b p u o =
    round_between f lo hi (m * up e * (n * up d)) (down e * down d) (mul-pos (down_pos e) (down_pos d)) H
    (omega (arith, mul-le-mul_right (down e) u, mul-le-mul_right (n * up d) b.low))
    (omega (arith, mul-le-mul_right (down e) o, mul-le-mul_right (n * up d) b.high))

-- ---- the quotient
pub div_between : (f : Format) (x y : Float) {l h lo hi : ℕ} → hi ≤ 2 ^ prec f → Between l h x → Plain y → 0 < num y
    → lo * num y ≤ l * den y → h * den y ≤ hi * num y → Between lo hi (div f x y)
unfolding div
div_between f nan y H b p z u o = absurd b.plain
div_between f (inf s) y H b p z u o = absurd b.plain
div_between f (fin true m e) y H b p z u o = absurd (true≢false b.plain.0)
div_between f (fin false m e) nan H b p z u o = absurd p
div_between f (fin false m e) (inf t) H b p z u o = absurd p
div_between f (fin false m e) (fin true n d) H b p z u o = absurd (true≢false p.0)
div_between f (fin false m e) (fin false n d) {lo = lo} {hi = hi} H b p z u o =
    let not_zero : nat_eq n 0 ≡ false = ne_eqb n 0 (λ k. omega (arith, ap (λ (i : ℕ). i * up d) k)) in
    rw not_zero
    (round_between f lo hi (m * up e * down d) (n * up d * down e) (mul-pos z (down_pos e)) H
    (omega (arith, mul-le-mul_right (down e) u, mul-le-mul_right (down d) b.low))
    (omega (arith, mul-le-mul_right (down e) o, mul-le-mul_right (down d) b.high)))

-- ---- the sum, and the difference of two in order
pub sub_mul : (a b k : ℕ) → (a - b) * k ≡ a * k - b * k
sub_mul a b k = mul_comm (a - b) k ∙ mul-sub k a b ∙ ap₂ ◌-◌ (mul_comm k a) (mul_comm k b)

pub add_between : (f : Format) (x y : Float) {l h l' h' : ℕ} → h + h' ≤ 2 ^ prec f → Between l h x → Between l' h' y
    → Between (l + l') (h + h') (add f x y)
unfolding add sum
add_between f nan y H b c = absurd b.plain
add_between f (inf s) y H b c = absurd b.plain
add_between f (fin true m e) y H b c = absurd (true≢false b.plain.0)
add_between f (fin false m e) nan H b c = absurd c.plain
add_between f (fin false m e) (inf t) H b c = absurd c.plain
add_between f (fin false m e) (fin true n d) H b c = absurd (true≢false c.plain.0)
add_between f (fin false m e) (fin false n d) {l} {h} {l'} {h'} H b c =
    round_between f (l + l') (h + h') (m * up e * down d + n * up d * down e) (down e * down d) (mul-pos (down_pos e) (down_pos d)) H
    (omega (arith, mul-le-mul_right (down d) b.low, mul-le-mul_right (down e) c.low))
    (omega (arith, mul-le-mul_right (down d) b.high, mul-le-mul_right (down e) c.high))

pub sub_between : (f : Format) (x y : Float) {l h l' h' : ℕ} → h ≤ 2 ^ prec f → Between l h x → Between l' h' y
    → num y * den x ≤ num x * den y → Between (l - h') h (sub f x y)
unfolding sub add neg sum
sub_between f nan y H b c o = absurd b.plain
sub_between f (inf s) y H b c o = absurd b.plain
sub_between f (fin true m e) y H b c o = absurd (true≢false b.plain.0)
sub_between f (fin false m e) nan H b c o = absurd c.plain
sub_between f (fin false m e) (inf t) H b c o = absurd c.plain
sub_between f (fin false m e) (fin true n d) H b c o = absurd (true≢false c.plain.0)
sub_between f (fin false m e) (fin false n d) {l} {h} {l'} {h'} H b c o =
    rw (le-ltb (m * up e * down d) (n * up d * down e) o)
    (round_between f (l - h') h (m * up e * down d - n * up d * down e) (down e * down d) (mul-pos (down_pos e) (down_pos d)) H
    (omega (arith, sub_mul l h' (down e * down d), mul-le-mul_right (down d) b.low, mul-le-mul_right (down e) c.high))
    (omega (arith, mul-le-mul_right (down d) b.high)))

-- ---- the floor, and a cast: both ends are kept
pub floor_between : (f : Format) (x : Float) {l h : ℕ} → h ≤ 2 ^ prec f → Between l h x → Between l h (floor f x)
unfolding floor
floor_between f nan H b = absurd b.plain
floor_between f (inf s) H b = absurd b.plain
floor_between f (fin true m e) H b = absurd (true≢false b.plain.0)
floor_between f (fin false m e) {l} {h} H b =
    let least : l ≤ m * up e / down e = (le-div_iff_mul-le (down_pos e)).1 b.low in
    let most : m * up e / down e ≤ h = div-le_of_le-mul (down e) (omega (arith, b.high)) in
    round_between f l h (m * up e / down e) 1 (lit< tt) H (omega arith) (omega arith)

pub cast_between : (w : ℕ) (x : Float) {l h : ℕ} → h < 2 ^ w → Between l h x → (l ≤ to_unsigned w x) × (to_unsigned w x ≤ h)
unfolding to_unsigned
cast_between w nan H b = absurd b.plain
cast_between w (inf s) H b = absurd b.plain
cast_between w (fin true m e) H b = absurd (true≢false b.plain.0)
cast_between w (fin false m e) {l} {h} H b =
    let least : l ≤ m * up e / down e = (le-div_iff_mul-le (down_pos e)).1 b.low in
    let most : m * up e / down e ≤ h = div-le_of_le-mul (down e) (omega (arith, b.high)) in
    (omega arith, omega arith)

-- a signed cast of what is not negative is the unsigned one
pub to_signed_plain : (h : ℕ) (x : Float) → Plain x → to_signed h x ≡ pos (to_unsigned h x)
unfolding to_signed to_unsigned
to_signed_plain h nan p = absurd p
to_signed_plain h (inf s) p = absurd p
to_signed_plain h (fin true m e) p = absurd (true≢false p.0)
to_signed_plain h (fin false m e) p = refl
