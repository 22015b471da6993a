-- How large a sum is at binary32, by the sizes and the signs of the two; and that a whole number, a sum, a difference and a product are at most as large as
-- a whole number that the format counts. Assumes nothing.
use Rattle.std.specs.Prelude.{◌≡◌, ℕ, ◌+◌, ◌-◌, ◌*◌, ◌^◌, ◌<◌, ◌≤◌, Bool, true, false, cond, not, ◌&&◌, pos, nat_lt, refl, Float}
use Rattle.std.proofs.Common.{sym, ap, ap₂, subst, ◌∙◌, mul_comm, add-mul, mul-le-mul_right, le_of_mul-le-mul_right, mul-pos, arith, lit<, le-ltb, lt-ltb}
use Rattle.std.proofs.Math.Path.{subst⁻¹}
use Rattle.std.specs.Bool.{beq}
use Rattle.std.proofs.Math.Nat.{mul-mul-mul_comm}
use Rattle.std.proofs.Math.Decide.{dec_lt}
use Rattle.std.specs.Float.{nan, inf, fin, binary32}
use Rattle.std.specs.Float.Ieee.{up, down, round, sum, neg, add, sub, mul, of_int, unlike}
use Rattle.std.specs.Float.Ieee.Exact.{HasValue}
use Rattle.std.specs.Float.Ieee.Fits.{down_pos}
use Rattle.std.specs.Float.Ieee.Scale.{round_same}
use Rattle.ieee.specs.Sign.{abs}
use Rattle.ieee.specs.RoundLaws.{abs_round}
use Rattle.ieee.specs.BetweenLaws.{Between, round_between, mul_between, sub_mul}

-- ---- how large a sum is, by the signs
abbrev pub apart : Bool → ℕ → Bool → ℕ → ℕ
apart s a t b = cond (beq s t) (a + b) (a - b + (b - a))

pub apart_zero : (s t : Bool) (a : ℕ) → apart s a t 0 ≡ a
apart_zero true true a = omega arith
apart_zero true false a = omega arith
apart_zero false true a = omega arith
apart_zero false false a = omega arith

pub zero_apart : (s t : Bool) (b : ℕ) → apart s 0 t b ≡ b
zero_apart true true b = omega arith
zero_apart true false b = omega arith
zero_apart false true b = omega arith
zero_apart false false b = omega arith

apart_mul : (s t : Bool) (a b c : ℕ) → apart s a t b * c ≡ apart s (a * c) t (b * c)
apart_mul true true a b c = add-mul a b c
apart_mul false false a b c = add-mul a b c
apart_mul true false a b c = add-mul (a - b) (b - a) c ∙ ap₂ ◌+◌ (sub_mul a b c) (sub_mul b a c)
apart_mul false true a b c = add-mul (a - b) (b - a) c ∙ ap₂ ◌+◌ (sub_mul a b c) (sub_mul b a c)

pub apart_most : (s t : Bool) (a b : ℕ) → apart s a t b ≤ a + b
apart_most true true a b = omega arith
apart_most false false a b = omega arith
apart_most true false a b = omega arith
apart_most false true a b = omega arith

-- ---- the size of a sum
abs_unlike : (s w t : Bool) (a b c : ℕ)
    → abs (cond (nat_lt a b) (round binary32 t (b - a) c) (round binary32 (s && w) (a - b) c)) ≡ round binary32 false (a - b + (b - a)) c
abs_unlike s w t a b c = go (dec_lt a b)
  where
    go : Dec (a < b) → abs (cond (nat_lt a b) (round binary32 t (b - a) c) (round binary32 (s && w) (a - b) c)) ≡ round binary32 false (a - b + (b - a)) c
    go (yes h) =
        let size : b - a ≡ a - b + (b - a) = omega arith in
        rw (lt-ltb a b h) (abs_round binary32 t (b - a) c ∙ ap (λ (n : ℕ). round binary32 false n c) size)
    go (no h) =
        let size : a - b ≡ a - b + (b - a) = omega arith in
        rw (le-ltb a b (omega arith)) (abs_round binary32 (s && w) (a - b) c ∙ ap (λ (n : ℕ). round binary32 false n c) size)

abs_sum : (s t : Bool) (a b c : ℕ) → abs (sum binary32 s a t b c) ≡ round binary32 false (apart s a t b) c
unfolding sum
abs_sum true true a b c = abs_round binary32 true (a + b) c
abs_sum false false a b c = abs_round binary32 false (a + b) c
abs_sum true false a b c = abs_unlike true (nat_lt b a) false a b c
abs_sum false true a b c = abs_unlike false (nat_lt b a) true a b c

-- by any fractions that the two values equal
pub abs_add : (x y : Float) (s t : Bool) (a c b d : ℕ) → 0 < c → 0 < d → HasValue x s a c → HasValue y t b d
    → abs (add binary32 x y) ≡ round binary32 false (apart s (a * d) t (b * c)) (c * d)
unfolding add
abs_add nan y s t a c b d C D p q = absurd p
abs_add (inf w) y s t a c b d C D p q = absurd p
abs_add (fin w m e) nan s t a c b d C D p q = absurd q
abs_add (fin w m e) (inf w') s t a c b d C D p q = absurd q
abs_add (fin w m e) (fin w' n g) s t a c b d C D p q =
    let X = m * up e * down g in
    let Y = n * up g * down e in
    let k = down e * down g in
    let left : X * (c * d) ≡ a * d * k =
    mul-mul-mul_comm (m * up e) (down g) c d ∙ ap₂ ◌*◌ p.1 (mul_comm (down g) d) ∙ mul-mul-mul_comm a (down e) d (down g) in
    let right : Y * (c * d) ≡ b * c * k =
    ap (λ (z : ℕ). Y * z) (mul_comm c d) ∙ mul-mul-mul_comm (n * up g) (down e) d c ∙ ap₂ ◌*◌ q.1 (mul_comm (down e) c)
    ∙ mul-mul-mul_comm b (down g) c (down e) ∙ ap (λ (z : ℕ). b * c * z) (mul_comm (down g) (down e)) in
    let cross : apart s X t Y * (c * d) ≡ apart s (a * d) t (b * c) * k =
    apart_mul s t X Y (c * d) ∙ ap₂ (λ (u v : ℕ). apart s u t v) left right ∙ sym (apart_mul s t (a * d) (b * c) k) in
    rw (p.0, q.0) (abs_sum s t X Y k
    ∙ round_same binary32 false (apart s X t Y) k (apart s (a * d) t (b * c)) (c * d) (mul-pos (down_pos e) (down_pos g)) (mul-pos C D) cross)

-- a value negated
pub neg_value : (t : Bool) (z : Float) (n d : ℕ) → HasValue z t n d → HasValue (neg z) (not t) n d
unfolding neg
neg_value t nan n d q = absurd q
neg_value t (inf w) n d q = absurd q
neg_value t (fin w k e) n d q = (ap not q.0, q.1)

-- ---- sizes: of a whole number, a sum, a difference, and a product with what is at most 1
pub size_whole : (n : ℕ) → n ≤ 2 ^ 24 → Between 0 n (abs (of_int binary32 (pos n)))
unfolding of_int
size_whole n h = subst⁻¹ (Between 0 n) (abs_round binary32 false n 1) (round_between binary32 0 n n 1 (lit< tt) h (omega arith) (omega arith))

pub size_add : (x y : Float) {h k : ℕ} → h + k ≤ 2 ^ 24 → Between 0 h (abs x) → Between 0 k (abs y) → Between 0 (h + k) (abs (add binary32 x y))
unfolding abs add
size_add nan y H b c = absurd b.plain
size_add (inf s) y H b c = absurd b.plain
size_add (fin s m e) nan H b c = absurd c.plain
size_add (fin s m e) (inf t) H b c = absurd c.plain
size_add (fin s m e) (fin t n d) {h} {k} H b c =
    let A = m * up e * down d in
    let B = n * up d * down e in
    let C = down e * down d in
    subst⁻¹ (Between 0 (h + k)) (abs_sum s t A B C)
    (round_between binary32 0 (h + k) (apart s A t B) C (mul-pos (down_pos e) (down_pos d)) H (omega arith)
    (omega (arith, apart_most s t A B, mul-le-mul_right (down d) b.high, mul-le-mul_right (down e) c.high)))

abs_neg : (x : Float) → abs x ≡ abs (neg x)
unfolding abs neg
abs_neg nan = refl
abs_neg (inf s) = refl
abs_neg (fin s m e) = refl

pub size_sub : (x y : Float) {h k : ℕ} → h + k ≤ 2 ^ 24 → Between 0 h (abs x) → Between 0 k (abs y) → Between 0 (h + k) (abs (sub binary32 x y))
unfolding sub
size_sub x y {k = k} H b c = size_add x (neg y) H b (subst (Between 0 k) (abs_neg y) c)

pub size_mul : (x y : Float) {h : ℕ} → h ≤ 2 ^ 24 → Between 0 1 (abs x) → Between 0 h (abs y) → Between 0 h (abs (mul binary32 x y))
unfolding abs mul
size_mul nan y H b c = absurd b.plain
size_mul (inf s) y H b c = absurd b.plain
size_mul (fin s m e) nan H b c = absurd c.plain
size_mul (fin s m e) (inf t) H b c = absurd c.plain
size_mul (fin s m e) (fin t n d) {h} H b c =
    subst⁻¹ (Between 0 h) (abs_round binary32 (unlike s t) (m * up e * (n * up d)) (down e * down d))
    (mul_between binary32 (fin false m e) (fin false n d) H b c.plain (omega arith) (omega (arith, c.high)))

pub size_unit : (x : Float) (s : Bool) (u v : ℕ) → HasValue x s u v → 0 < v → u ≤ v → Between 0 1 (abs x)
unfolding abs
size_unit nan s u v p P h = absurd p
size_unit (inf t) s u v p P h = absurd p
size_unit (fin t m e) s u v p P h = record {
  plain = (refl, refl);
  low = omega arith;
  high = le_of_mul-le-mul_right (omega (arith, p.1, mul-le-mul_right (down e) h)) P;
}
