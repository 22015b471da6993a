-- How large a float is at least, through Rust's operators at binary32: `Far s n x` says that x has the sign s and is n or more in size, an infinity included.
-- And where whole numbers are kept exactly: `HasValue x s n 1`. Assumes nothing.
use Rattle.std.specs.Prelude.{◌≡◌, refl, Bool, true, false, not, cond, ℕ, zero, suc, ◌+◌, ◌-◌, ◌*◌, ◌/◌, ◌^◌, ◌≤◌, ◌<◌, T, ltb, Float}
use Rattle.std.proofs.Common.{sym, ap, ap₂, subst, ◌∙◌, true≢false, le_trans, le_of_eq, mul_comm, mul_assoc, mul-one, zero-mul, mul_right_comm, add-mul, mul-le-mul_right, le_of_mul-le-mul_right, mul-pos, le-div_iff_mul-le, mul-div_cancel, arith, pow_pos, le-ltb, lt-ltb}
use Rattle.std.proofs.Math.Path.{subst⁻¹}
use Rattle.std.proofs.Math.Nat.{mul-mul-mul_comm, eq_of_mul-eq-mul_right}
use Rattle.std.specs.Float.Ieee.{up, down, round, units, odd, sum, neg, add, sub, mul, le, to_unsigned, unlike}
use Rattle.std.specs.Float.{nan, inf, fin, binary32}
use Rattle.std.specs.Float.Ieee.Fits.{down_pos, round_is}
use Rattle.std.specs.Float.Ieee.Exact.{HasValue}
use Rattle.std.specs.Float.Ieee.Back.{round_whole}
use Rattle.std.specs.Float.Ieee.Order.{round_mono}
use lib.Ieee.Positive.{positive, positive_of_value, above_of_le, values_of_le, own_value}
use Rattle.std.specs.Float.Ieee.Scale.{round_same}
use Rattle.ieee.specs.Sign.{abs}
use Rattle.ieee.specs.BetweenLaws.{sub_mul}
use Rattle.ieee.specs.SizeLaws.{apart, apart_zero, apart_most, abs_add, neg_value}

abbrev pub Far : Bool → ℕ → Float → Type 0
Far s n nan = ⊥
Far s n (inf t) = t ≡ s
Far s n (fin t m e) = (t ≡ s) × (n * down e ≤ m * up e)

-- ---- a fraction of n or more rounds to n or more, for an n that the format holds
far_of_le : (n : ℕ) (lo z : Float) → 0 < n → HasValue lo false n 1 → T (le lo z) → Far false n z
far_of_le n lo z N v h = go z h (above_of_le lo z P h)
  where
    P : T (positive lo)
    P = positive_of_value lo n 1 v N

    go : (z : Float) → T (le lo z) → T (lib.Ieee.Positive.above z) → Far false n z
    go nan h a = absurd a
    go (inf true) h a = absurd a
    go (inf false) h a = refl
    go (fin true m e) h a = absurd a
    go (fin false m e) h a =
        let least = values_of_le lo (fin false m e) n 1 (m * up e) (down e) P a v (own_value (fin false m e) a) h in
        (refl, le_trans least (le_of_eq (mul-one (m * up e))))

-- the sign goes through `round`
resign_odd : (d : ℕ) (s : Bool) (q k l n : ℕ) → Far false n (odd d false q k l) → Far s n (odd d s q k l)
unfolding odd
resign_odd d s zero k l n h = (refl, h.1)
resign_odd d s (suc q) k l n h = (refl, h.1)

resign_units : (s : Bool) (q k n : ℕ) → Far false n (units binary32 false q k) → Far s n (units binary32 s q k)
unfolding units
resign_units s q k n = go (ltb (q * 2 ^ k) (2 ^ (149 + 128)))
  where
    go : (b : Bool) → Far false n (cond b (odd 25 false q k 149) (inf false)) → Far s n (cond b (odd 25 s q k 149) (inf s))
    go true h = resign_odd 25 s q k 149 n h
    go false h = refl

resign : (s : Bool) (n a b : ℕ) → Far false n (round binary32 false a b) → Far s n (round binary32 s a b)
resign s n a b h = rw round_is (resign_units s _ _ n (rw round_is at h))

round_far : (s : Bool) (n a b : ℕ) → 0 < n → n ≤ 2 ^ 24 → 0 < b → n * b ≤ a → Far s n (round binary32 s a b)
round_far s n a b N small B h =
    resign s n a b
    (far_of_le n (round binary32 false n 1) (round binary32 false a b) N (round_whole binary32 false n small)
    (round_mono binary32 n 1 a b (pow_pos 0) B (le_trans h (le_of_eq (sym (mul-one a))))))

-- ---- the product of a value u / v and a whole number
swap : (m u n k de dd v : ℕ) → m * v ≡ u * de → n * 1 ≡ k * dd → m * n * v ≡ u * k * (de * dd)
swap m u n k de dd v p q =
    mul_right_comm m n v ∙ ap (λ (z : ℕ). z * n) p ∙ ap (λ (z : ℕ). u * de * z) (sym (mul-one n) ∙ q) ∙ mul-mul-mul_comm u de k dd

-- a factor that is not negative keeps the sign
like : (t w s : Bool) → t ≡ s → w ≡ false → unlike t w ≡ s
like true true s p q = absurd (true≢false q)
like true false s p q = p
like false true s p q = absurd (true≢false q)
like false false s p q = p

pub mul_far : (s : Bool) (x y : Float) (u v k n : ℕ) → HasValue x s u v → HasValue y false k 1 → 0 < v → 0 < n → n ≤ 2 ^ 24
    → n * v ≤ u * k → Far s n (mul binary32 x y)
unfolding mul
mul_far s nan y u v k n p q P N small h = absurd p
mul_far s (inf t) y u v k n p q P N small h = absurd p
mul_far s (fin t m e) nan u v k n p q P N small h = absurd q
mul_far s (fin t m e) (inf w) u v k n p q P N small h = absurd q
mul_far s (fin t m e) (fin w m' d) u v k n p q P N small h =
    let c = down e * down d in
    let big : n * c ≤ m * up e * (m' * up d) =
    le_of_mul-le-mul_right
    (le_trans (le_of_eq (mul_right_comm n c v))
    (le_trans (mul-le-mul_right c h) (le_of_eq (sym (swap (m * up e) u (m' * up d) k (down e) (down d) v p.1 q.1))))) P
    in
    rw (like t w s p.0 q.0) (round_far s n (m * up e * (m' * up d)) c N small (mul-pos (down_pos e) (down_pos d)) big)

-- ---- a sum a / c + b / c: of one sign, and of any two signs where the first outweighs the second
same_far : (s : Bool) (a b c n : ℕ) → 0 < n → n ≤ 2 ^ 24 → 0 < c → n * c ≤ a → Far s n (sum binary32 s a s b c)
unfolding sum
same_far true a b c n N small C h = round_far true n (a + b) c N small C (omega arith)
same_far false a b c n N small C h = round_far false n (a + b) c N small C (omega arith)

other_far : (s t : Bool) (a b c n : ℕ) → 0 < n → n ≤ 2 ^ 24 → 0 < c → n * c + b ≤ a → Far s n (sum binary32 s a t b c)
unfolding sum
other_far true true a b c n N small C h = round_far true n (a + b) c N small C (omega arith)
other_far false false a b c n N small C h = round_far false n (a + b) c N small C (omega arith)
other_far false true a b c n N small C h = rw (le-ltb a b (omega arith)) (round_far false n (a - b) c N small C (omega arith))
other_far true false a b c n N small C h =
    let positive : 0 < n * c = mul-pos N C in
    rw (le-ltb a b (omega arith), lt-ltb b a (omega arith)) (round_far true n (a - b) c N small C (omega arith))

-- a numerator over the common denominator of two values
widen : (m a de dd : ℕ) → m * 1 ≡ a * de → m * dd ≡ a * (de * dd)
widen m a de dd h = ap (λ (z : ℕ). z * dd) (sym (mul-one m) ∙ h) ∙ mul_assoc a de dd

-- ---- whole numbers: a difference of two is exact, and a product with zero is zero
pub sub_whole : (x y : Float) (a b : ℕ) → HasValue x false a 1 → HasValue y false b 1 → b ≤ a → a ≤ 2 ^ 24 → HasValue (sub binary32 x y) false (a - b) 1
unfolding sub sum
sub_whole nan y a b p q h small = absurd p
sub_whole (inf t) y a b p q h small = absurd p
sub_whole (fin t m e) nan a b p q h small = absurd q
sub_whole (fin t m e) (inf w) a b p q h small = absurd q
sub_whole (fin true m e) (fin w n d) a b p q h small = absurd (true≢false p.0)
sub_whole (fin false m e) (fin true n d) a b p q h small = absurd (true≢false q.0)
sub_whole (fin false m e) (fin false n d) a b p q h small =
    let c = down e * down d in
    let A = m * up e * down d in
    let B = n * up d * down e in
    let l : A ≡ a * c = widen (m * up e) a (down e) (down d) p.1 in
    let r : B ≡ b * c = widen (n * up d) b (down d) (down e) q.1 ∙ ap (λ (z : ℕ). b * z) (mul_comm (down d) (down e)) in
    let under : b * c ≤ a * c = mul-le-mul_right c h in
    let size : (A - B) * 1 ≡ (a - b) * c = mul-one (A - B) ∙ ap (λ (z : ℕ). z - B) l ∙ ap (λ (z : ℕ). a * c - z) r ∙ sym (sub_mul a b c) in
    rw (le-ltb A B (omega arith), round_same binary32 false (A - B) c (a - b) 1 (mul-pos (down_pos e) (down_pos d)) (pow_pos 0) size)
    (round_whole binary32 false (a - b) (omega arith))

-- the product of a value u / v and a whole number k, where it is a whole number n
pub mul_whole : (s : Bool) (x y : Float) (u v k n : ℕ) → HasValue x s u v → HasValue y false k 1 → 0 < v → u * k ≡ n * v → n ≤ 2 ^ 24
    → HasValue (mul binary32 x y) s n 1
unfolding mul
mul_whole s nan y u v k n p q P e small = absurd p
mul_whole s (inf t) y u v k n p q P e small = absurd p
mul_whole s (fin t m d) nan u v k n p q P e small = absurd q
mul_whole s (fin t m d) (inf w) u v k n p q P e small = absurd q
mul_whole s (fin t m d) (fin w m' d') u v k n p q P e small =
    let c = down d * down d' in
    let exact : m * up d * (m' * up d') * 1 ≡ n * c =
    mul-one (m * up d * (m' * up d'))
    ∙ eq_of_mul-eq-mul_right v P (m * up d * (m' * up d')) (n * c)
    (swap (m * up d) u (m' * up d') k (down d) (down d') v p.1 q.1 ∙ ap (λ (z : ℕ). z * c) e ∙ mul_right_comm n v c)
    in
    rw (like t w s p.0 q.0, round_same binary32 s (m * up d * (m' * up d')) c n 1 (mul-pos (down_pos d) (down_pos d')) (pow_pos 0) exact)
    (round_whole binary32 s n small)

pub mul_zero_value : (s : Bool) (x y : Float) (u v : ℕ) → HasValue x s u v → 0 < v → HasValue y false 0 1 → HasValue (mul binary32 x y) s 0 1
mul_zero_value s x y u v p P q = mul_whole s x y u v 0 0 p q P (omega arith) (omega arith)

spread : (n a de dd : ℕ) → n * de ≤ a → n * (de * dd) ≤ a * dd
spread n a de dd h = le_trans (le_of_eq (sym (mul_assoc n de dd))) (mul-le-mul_right dd h)

-- ---- a sum with zero, with a number of the same sign, and with a smaller one of the other
pub add_zero_far : (s t : Bool) (x z : Float) (n : ℕ) → 0 < n → n ≤ 2 ^ 24 → Far s n x → HasValue z t 0 1 → Far s n (add binary32 x z)
unfolding add
add_zero_far s t nan z n N small p q = absurd p
add_zero_far s t (inf w) nan n N small p q = absurd q
add_zero_far s t (inf w) (inf w') n N small p q = absurd q
add_zero_far s t (inf w) (fin w' k d) n N small p q = p
add_zero_far s t (fin w m e) nan n N small p q = absurd q
add_zero_far s t (fin w m e) (inf w') n N small p q = absurd q
add_zero_far s t (fin w m e) (fin w' k d) n N small p q =
    let none : k * up d ≡ 0 = omega (arith, q.1) in
    let nothing : k * up d * down e ≡ 0 = ap (λ (z : ℕ). z * down e) none ∙ zero-mul (down e) in
    rw p.0 (other_far s w' (m * up e * down d) (k * up d * down e) (down e * down d) n N small (mul-pos (down_pos e) (down_pos d))
    (omega (arith, spread n (m * up e) (down e) (down d) p.1)))

-- a zero taken away is one added, of the other sign
pub sub_zero_far : (s t : Bool) (x z : Float) (n : ℕ) → 0 < n → n ≤ 2 ^ 24 → Far s n x → HasValue z t 0 1 → Far s n (sub binary32 x z)
unfolding sub
sub_zero_far s t x z n N small p q = add_zero_far s (not t) x (neg z) n N small p (neg_value t z 0 1 q)

pub add_far : (x y : Float) (n b : ℕ) → 0 < n → n ≤ 2 ^ 24 → Far false n x → HasValue y false b 1 → Far false n (add binary32 x y)
unfolding add
add_far nan y n b N small p q = absurd p
add_far (inf w) nan n b N small p q = absurd q
add_far (inf w) (inf w') n b N small p q = absurd q
add_far (inf w) (fin w' k d) n b N small p q = p
add_far (fin w m e) nan n b N small p q = absurd q
add_far (fin w m e) (inf w') n b N small p q = absurd q
add_far (fin w m e) (fin w' k d) n b N small p q =
    rw (p.0, q.0) (same_far false (m * up e * down d) (k * up d * down e) (down e * down d) n N small (mul-pos (down_pos e) (down_pos d))
    (spread n (m * up e) (down e) (down d) p.1))

pub add_back_far : (x y : Float) (n b : ℕ) → 0 < n → n ≤ 2 ^ 24 → Far true (n + b) x → HasValue y false b 1 → Far true n (add binary32 x y)
unfolding add
add_back_far nan y n b N small p q = absurd p
add_back_far (inf w) nan n b N small p q = absurd q
add_back_far (inf w) (inf w') n b N small p q = absurd q
add_back_far (inf w) (fin w' k d) n b N small p q = p
add_back_far (fin w m e) nan n b N small p q = absurd q
add_back_far (fin w m e) (inf w') n b N small p q = absurd q
add_back_far (fin w m e) (fin w' k d) n b N small p q =
    let c = down e * down d in
    let r : k * up d * down e ≡ b * c = widen (k * up d) b (down d) (down e) q.1 ∙ ap (λ (z : ℕ). b * z) (mul_comm (down d) (down e)) in
    rw p.0 (other_far true w' (m * up e * down d) (k * up d * down e) c n N small (mul-pos (down_pos e) (down_pos d))
    (omega (arith, add-mul n b c, spread (n + b) (m * up e) (down e) (down d) p.1)))

-- ---- the row or column of a coordinate that is n or more
pub cell_far : (s : Bool) (x : Float) (n : ℕ) → n < 2 ^ 32 → Far s n x → n ≤ to_unsigned 32 (abs x)
unfolding to_unsigned abs
cell_far s nan n h p = absurd p
cell_far s (inf t) n h p = omega arith
cell_far s (fin t m e) n h p = omega (arith, (le-div_iff_mul-le (down_pos e)).1 p.1)

-- ---- whole numbers in size, whatever their sign
pub record Sized (n : ℕ) (x : Float) : Type 0 where
  pub sign : Bool
  pub value : HasValue x sign n 1

-- the sign of one that is far
pub value_far : (s t : Bool) (x : Float) (n m : ℕ) → HasValue x s n 1 → Far t m x → HasValue x t n 1
value_far s t nan n m p q = absurd p
value_far s t (inf w) n m p q = absurd p
value_far s t (fin w k e) n m p q = (q.0, p.1)

sized_abs : (x : Float) (n : ℕ) → HasValue (abs x) false n 1 → Sized n x
unfolding abs
sized_abs nan n p = absurd p
sized_abs (inf t) n p = absurd p
sized_abs (fin t m e) n p = record { sign = t; value = (refl, p.1) }

pub add_sized : (s t : Bool) (x y : Float) (a b : ℕ) → HasValue x s a 1 → HasValue y t b 1 → a + b ≤ 2 ^ 24 → Sized (apart s a t b) (add binary32 x y)
add_sized s t x y a b p q small =
    let n = apart s a t b in
    let size : abs (add binary32 x y) ≡ round binary32 false n 1 =
    abs_add x y s t a 1 b 1 (pow_pos 0) (pow_pos 0) p q ∙ ap₂ (λ (i j : ℕ). round binary32 false (apart s i t j) 1) (mul-one a) (mul-one b) in
    sized_abs (add binary32 x y) n
    (subst⁻¹ (λ (z : Float). HasValue z false n 1) size (round_whole binary32 false n (le_trans (apart_most s t a b) small)))

pub sub_zero_sized : (s t : Bool) (x z : Float) (a : ℕ) → HasValue x s a 1 → HasValue z t 0 1 → a ≤ 2 ^ 24 → Sized a (sub binary32 x z)
unfolding sub
sub_zero_sized s t x z a p q small =
    subst (λ (n : ℕ). Sized n (add binary32 x (neg z))) (apart_zero s (not t) a) (add_sized s (not t) x (neg z) a 0 p (neg_value t z 0 1 q) (omega arith))

pub cell_sized : (x : Float) (n : ℕ) → n < 2 ^ 32 → Sized n x → to_unsigned 32 (abs x) ≡ n
unfolding to_unsigned abs
cell_sized x n h sized = go x sized.value
  where
    go : (x : Float) → HasValue x sized.sign n 1 → to_unsigned 32 (abs x) ≡ n
    go nan p = absurd p
    go (inf t) p = absurd p
    go (fin t m e) p =
        let whole : m * up e ≡ n * down e = sym (mul-one (m * up e)) ∙ p.1 in
        let back : m * up e / down e ≡ n = ap (λ (z : ℕ). z / down e) whole ∙ mul-div_cancel n (down_pos e) in
        rw back (omega arith)
