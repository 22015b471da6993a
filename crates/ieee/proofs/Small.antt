-- The whole part of a value of binary32 below 2 ^ 22, by 2 ^ 23 more at binary32: a whole number, from which one is taken where it exceeds the value.
-- Assumes nothing.
use Rattle.std.proofs.Common.{◌≡◌, ℕ, ◌+◌, ◌-◌, ◌*◌, ◌/◌, ◌%◌, ◌^◌, ◌<◌, ◌≤◌, Bool, true, false, not, T, ltb, pos, sym, refl, ap, ◌∙◌, true≢false, le_trans, le_of_eq, lt_of_le_of_lt, div-lt_iff_lt-mul, lt_of_mul-lt-mul_right, mul-lt-mul_of_pos_right, le-div_iff_mul-le, le_of_mul-le-mul_right, arith, ltb→lt, lt→ltb, ltb-false, ltb-true, le-ltb, Float, is_nan, to_bits}
use Rattle.std.specs.Float.Ieee.{prec, up, down, sum, add, neg, sub, lt, fits, to_unsigned}
use Rattle.std.specs.Float.{nan, inf, fin, Format, binary32}
use Rattle.std.proofs.Math.Path.{subst⁻¹}
use lib.Ieee.Fits.{down_pos, add-fits}
use lib.Ieee.Positive.{positive, num, den, den_pos, positive_of_value}
use mir.Val.{bool_byte}
use Rattle.ieee.specs.Sign.{abs}
use Rattle.ieee.specs.RoundLaws.{crossed}
use Rattle.ieee.specs.BetweenLaws.{Between, round_between, add_between}
use Rattle.ieee.proofs.Fields.{positive_not_nan}
use Rattle.ieee.proofs.Below.{Below, below, counted}

-- ---- numbers: of n and n + 1, around a / d, the one that exceeds it is n + 1
record Corrected (n r : ℕ) (over : Bool) : Type 0 where
  enough : bool_byte over ≤ r
  whole : r - bool_byte over ≡ n

corrected : (n r a d v : ℕ) → n * d ≤ a → a < (n + 1) * d → n ≤ r → r ≤ n + 1 → 0 < v → Corrected n r (ltb (a * v) (r * v * d))
corrected n r a d v under over least most p = go (ltb (a * v) (r * v * d)) (ltb-true (a * v) (r * v * d)) (ltb-false (a * v) (r * v * d))
  where
    go : (b : Bool) → (b ≡ true → a * v < r * v * d) → (b ≡ false → r * v * d ≤ a * v) → Corrected n r b
    go true more none =
        let above : a < r * d = lt_of_mul-lt-mul_right v (omega (arith, more refl)) in
        let next : n < r = lt_of_mul-lt-mul_right d (lt_of_le_of_lt under above) in
        record { enough = omega arith; whole = omega arith }
    go false none less =
        let within : r * d ≤ a = le_of_mul-le-mul_right (omega (arith, less refl)) p in
        let same : r < n + 1 = lt_of_mul-lt-mul_right d (lt_of_le_of_lt within over) in
        record { enough = omega arith; whole = omega arith }

-- ---- 2 ^ k away from a whole number is exact
less_power : (f : Format) (k : ℕ) (x : Float) {r : ℕ} → r ≤ 2 ^ prec f → Between (2 ^ k + r) (2 ^ k + r) x → Between r r (sub f x (fin false 1 (pos k)))
unfolding sub add neg sum
less_power f k nan H b = absurd b.plain
less_power f k (inf s) H b = absurd b.plain
less_power f k (fin true m e) H b = absurd (true≢false b.plain.0)
less_power f k (fin false m e) {r} H b =
    let from : (2 ^ k + r) * down e ≤ m * up e = b.low in
    let to : m * up e ≤ (2 ^ k + r) * down e = b.high in
    rw (le-ltb (m * up e * 1) (1 * 2 ^ k * down e) (omega arith))
    (round_between f r r (m * up e * 1 - 1 * 2 ^ k * down e) (down e * 1) (omega (arith, down_pos e)) H (omega arith) (omega arith))

-- ---- 2 ^ 23 more than y, a whole number, and that less 2 ^ 23
abbrev pub moved : Float → Float
moved y = add binary32 y (fin false 1 (pos 23))

abbrev pub back : Float → Float
back y = sub binary32 (moved y) (fin false 1 (pos 23))

record Whole (n : ℕ) (t : Float) (r : ℕ) : Type 0 where
  above : T (positive t)
  least : n ≤ r
  most : r ≤ n + 1
  is : Between (2 ^ 23 + r) (2 ^ 23 + r) t

whole_moved : (n : ℕ) (t : Float) → T (fits binary32 t) → n < 2 ^ 22 → Between (n + 2 ^ 23) (n + 1 + 2 ^ 23) t → Whole n t (to_bits binary32 t % 2 ^ 23)
whole_moved n t fit small is =
    let r = to_bits binary32 t % 2 ^ 23 in
    let above = positive_of_value t (num t) (den t) is.plain (omega (arith, den_pos t)) in
    let limit : n + 1 + 2 ^ 23 < 2 ^ 24 = omega arith in
    let to : num t < 2 ^ 24 * den t = lt_of_le_of_lt is.high (mul-lt-mul_of_pos_right limit (den_pos t)) in
    let units : num t * 2 ^ 0 ≡ (2 ^ 23 + r) * den t = counted binary32 t fit above 23 0 refl (omega arith) to in
    let whole : num t ≡ (2 ^ 23 + r) * den t = omega arith in
    let least : n + 2 ^ 23 ≤ 2 ^ 23 + r = le_of_mul-le-mul_right (le_trans is.low (le_of_eq whole)) (den_pos t) in
    let most : 2 ^ 23 + r ≤ n + 1 + 2 ^ 23 = le_of_mul-le-mul_right (le_trans (le_of_eq (sym whole)) is.high) (den_pos t) in
    record {
      above = above;
      least = omega arith;
      most = omega arith;
      is = record { plain = is.plain; low = le_of_eq (sym whole); high = le_of_eq whole };
    }

record Moved (n : ℕ) (y : Float) : Type 0 where
  number : T (not (is_nan (moved y)))
  right : Corrected n (to_bits binary32 (moved y) % 2 ^ 23) (lt y (back y))

around : (n : ℕ) (y : Float) → n < 2 ^ 22 → Between n (n + 1) y → num y < (n + 1) * den y → Moved n y
around n y few is over =
    let power : Between (2 ^ 23) (2 ^ 23) (fin false 1 (pos 23)) = record { plain = (refl, refl); low = omega arith; high = omega arith } in
    let t = moved y in
    let r = to_bits binary32 t % 2 ^ 23 in
    let whole = whole_moved n t (add-fits binary32 y (fin false 1 (pos 23))) few (add_between binary32 y (fin false 1 (pos 23)) (omega arith) is power) in
    let less = less_power binary32 23 t (omega (arith, whole.most)) whole.is in
    let v = den (back y) in
    let exactly : num (back y) ≡ r * v = omega (arith, less.low, less.high) in
    let test : lt y (back y) ≡ ltb (num y * v) (r * v * den y) =
    (crossed y (back y) is.plain less.plain).less ∙ ap (λ (z : ℕ). ltb (num y * v) (z * den y)) exactly in
    record {
      number = positive_not_nan t whole.above;
      right = subst⁻¹ (Corrected n r) test
          (corrected n r (num y) (den y) v is.low over whole.least whole.most (den_pos (back y)));
    }

-- ---- what the program meets on its way
pub record Small (x : Float) : Type 0 where
  pub sign : Below x
  pub moved_number : T (not (is_nan (moved (abs x))))
  pub enough : bool_byte (lt (abs x) (back (abs x))) ≤ to_bits binary32 (moved (abs x)) % 2 ^ 23
  pub whole : to_bits binary32 (moved (abs x)) % 2 ^ 23 - bool_byte (lt (abs x) (back (abs x))) ≡ to_unsigned 32 (abs x)

pub small : (x : Float) → T (fits binary32 x) → T (lt (abs x) (fin false 1 (pos 22))) → Small x
unfolding lt abs to_unsigned
small nan t h = absurd h
small (inf s) t h = absurd h
small (fin s m e) t h =
    let d = down e in
    let n = m * up e / d in
    let limit : m * up e < 2 ^ 22 * d = omega (arith, ltb→lt (m * up e * 1) (1 * 2 ^ 22 * d) h) in
    let few : n < 2 ^ 22 = (div-lt_iff_lt-mul (down_pos e)).1 limit in
    let under : n * d ≤ m * up e = (le-div_iff_mul-le (down_pos e)).0 (omega arith) in
    let over : m * up e < (n + 1) * d = (div-lt_iff_lt-mul (down_pos e)).0 (omega arith) in
    let is = around n (fin false m e) few (record { plain = (refl, refl); low = under; high = omega arith }) over in
    record {
      sign = below (fin s m e) t (lt→ltb (m * up e * 1) (1 * 2 ^ 28 * d) (omega arith));
      moved_number = is.number;
      enough = is.right.enough;
      whole = is.right.whole ∙ omega arith;
    }
