-- The point of a walk by fewer operations: its distance down from the centre is zero, and a zero added changes no more than a zero's sign, which is
-- cleared at the end. And how large a coordinate of the point is at most. Assumes nothing.
use Rattle.std.proofs.Common.{◌≡◌, refl, sym, ap, ◌∙◌, Bool, true, false, ◌⊎◌, inl, inr, ⊎_elim, ℕ, zero, suc, ◌+◌, ◌*◌, ◌^◌, ◌≤◌, ◌<◌, lt_of_lt_of_le, mul_comm, mul_assoc, zero-mul, mul-lt-mul_of_pos_right, mul-pos, arith, T, ltb, lt→ltb, lit<, ℤ, pos, pow_mono, Float, le-ltb, lt-ltb}
use Rattle.std.specs.Float.Ieee.{up, down, round, sum, add, mul, lt, fits}
use Rattle.std.specs.Float.{nan, inf, fin, binary32}
use Rattle.std.proofs.Math.Nat.{eq_of_mul-eq-mul_right}
use Rattle.std.proofs.Math.Path.{subst⁻¹}
use lib.Ieee.Exact.{HasValue}
use lib.Ieee.Fits.{down_pos}
use lib.Ieee.Positive.{num, den, den_pos}
use lib.Ieee.Scale.{round_same}
use Rattle.ieee.specs.Sign.{abs}
use Rattle.ieee.specs.RoundLaws.{crossed}
use Rattle.ieee.specs.BetweenLaws.{Between}
use Rattle.ieee.specs.SizeLaws.{apart, zero_apart, abs_add, size_whole, size_add, size_sub, size_mul}
use Rattle.ieee.proofs.Units.{round_own}
use Rattle.rxing_result_point.specs.Points.{real, past}

-- ---- a zero added to x, of the sign s: the size is kept, and the sign unless x is a zero too
record Kept (s : Bool) (a c : ℕ) (y : Float) : Type 0 where
  sign : Bool
  value : HasValue y sign a c
  like : (sign ≡ s) ⊎ (a ≡ 0)

-- the sign that it gets
sign_of : Bool → Bool → ℕ → Bool
sign_of true true a = true
sign_of true false a = ltb 0 a
sign_of false t a = false

sum_zero : (s t : Bool) (a c : ℕ) → sum binary32 s a t 0 c ≡ round binary32 (sign_of s t a) a c
unfolding sum sign_of
sum_zero true true a c = ap (λ (n : ℕ). round binary32 true n c) (omega arith)
sum_zero false false a c = ap (λ (n : ℕ). round binary32 false n c) (omega arith)
sum_zero true false a c = rw (le-ltb a 0 (omega arith)) (ap (λ (n : ℕ). round binary32 (ltb 0 a) n c) (omega arith))
sum_zero false true a c = rw (le-ltb a 0 (omega arith)) (ap (λ (n : ℕ). round binary32 false n c) (omega arith))

sign_kept : (s t : Bool) (a : ℕ) → (sign_of s t a ≡ s) ⊎ (a ≡ 0)
unfolding sign_of
sign_kept true true a = inl refl
sign_kept true false zero = inr refl
sign_kept true false (suc a) = inl (lt-ltb 0 (suc a) (omega arith))
sign_kept false t a = inl refl

kept_sum : (s t : Bool) (m : ℕ) (e : ℤ) (z : Float) → T (fits binary32 (fin s m e)) → HasValue z t 0 1 → Kept s (m * up e) (down e) (add binary32 (fin s m e) z)
unfolding add
kept_sum s t m e nan fit q = absurd q
kept_sum s t m e (inf w) fit q = absurd q
kept_sum s t m e (fin w k g) fit q =
    let a = m * up e in
    let c = down e * down g in
    let none : k * up g ≡ 0 = omega (arith, q.1) in
    let nothing : k * up g * down e ≡ 0 = ap (λ (n : ℕ). n * down e) none ∙ zero-mul (down e) in
    let z = sign_of s w (a * down g) in
    let cross : a * down g * down e ≡ a * c = mul_assoc a (down g) (down e) ∙ ap (λ (n : ℕ). a * n) (mul_comm (down g) (down e)) in
    let same : add binary32 (fin s m e) (fin w k g) ≡ round binary32 z a (down e) =
    ap (λ (n : ℕ). sum binary32 s (a * down g) w n c) nothing ∙ sum_zero s w (a * down g) c
    ∙ round_same binary32 z (a * down g) c a (down e) (mul-pos (down_pos e) (down_pos g)) (down_pos e) cross in
    record {
      sign = z;
      value = subst⁻¹ (λ (y : Float). HasValue y z a (down e)) same (round_own binary32 s z m e fit);
      like = ⊎_elim inl (λ h. inr (eq_of_mul-eq-mul_right (down g) (down_pos g) a 0 (h ∙ sym (zero-mul (down g))))) (sign_kept s w (a * down g));
    }

alike : (z s w : Bool) (a b : ℕ) → (z ≡ s) ⊎ (a ≡ 0) → apart z a w b ≡ apart s a w b
alike z s w a b (inl e) = ap (λ (v : Bool). apart v a w b) e
alike z s w a b (inr e) = ap (λ (n : ℕ). apart z n w b) e ∙ zero_apart z w b ∙ sym (ap (λ (n : ℕ). apart s n w b) e ∙ zero_apart s w b)

-- so a sum is as large without it
pub size_without : (x z y : Float) (t w : Bool) (b : ℕ) {n : ℕ} → T (fits binary32 x) → Between 0 n (abs x) → HasValue z t 0 1 → HasValue y w b 1
    → abs (add binary32 (add binary32 x z) y) ≡ abs (add binary32 x y)
unfolding abs
size_without nan z y t w b fit near p q = absurd near.plain
size_without (inf s) z y t w b fit near p q = absurd near.plain
size_without (fin s m e) z y t w b fit near p q =
    let kept = kept_sum s t m e z fit p in
    abs_add (add binary32 (fin s m e) z) y kept.sign w (m * up e) (down e) b 1 (down_pos e) (lit< tt) kept.value q
    ∙ ap (λ (n : ℕ). round binary32 false n (down e * 1))
    (alike kept.sign s w (m * up e * 1) (b * down e) (⊎_elim inl (λ h. inr (omega arith)) kept.like))
    ∙ sym (abs_add (fin s m e) y s w (m * up e) (down e) b 1 (down_pos e) (lit< tt) (refl, refl) q)

-- ---- a coordinate: from column x, with a factor that is at most 1, about column c and row or column r
module _ (w : Float) (c x r : ℕ) (unit : Between 0 1 (abs w)) (left : c < 2048) (low : x ≤ 2 ^ 21) (inside : r < 2048) where
  pub size_across : Between 0 (x + c) (abs (mul binary32 w (past c x)))
  size_across =
      size_mul w (past c x) (omega arith) unit (size_sub (real x) (real c) (omega arith) (size_whole x (omega arith)) (size_whole c (omega arith)))

  pub size_below : (k : ℕ) → 22 ≤ k → T (lt (abs (add binary32 (mul binary32 w (past c x)) (real r))) (fin false 1 (pos k)))
  size_below k h =
      let y = abs (add binary32 (mul binary32 w (past c x)) (real r)) in
      let is : Between 0 (x + c + r) y = size_add (mul binary32 w (past c x)) (real r) (omega arith) size_across (size_whole r (omega arith)) in
      let limit : x + c + r < 2 ^ k = lt_of_lt_of_le {m = 2 ^ 22} (omega arith) (pow_mono {i = 22} {j = k} h) in
      let less : num y * 1 < 1 * 2 ^ k * den y = omega (arith, is.high, mul-lt-mul_of_pos_right limit (den_pos y)) in
      subst⁻¹ T (crossed y (fin false 1 (pos k)) is.plain (refl, refl)).less (lt→ltb _ _ less)
