-- `sqrt` is the kit's, which is rounded from 2271 binary places: both have the same leading digits, and one more than the format keeps decides.
-- Assumes nothing.
use Rattle.std.proofs.Common.{◌≡◌, ℕ, zero, suc, ◌+◌, ◌-◌, ◌*◌, ◌/◌, ◌%◌, ◌^◌, ◌≤◌, ◌<◌, true, false, T, refl, sym, ap, ◌∙◌, subst, mul-le-mul_right, mul-div_cancel, div-lt_iff_lt-mul, le-div_iff_mul-le, arith, eqb→eq, lt→ltb, pow_pos, pow-add, Float}
use Rattle.std.proofs.Math.Nat.{pow-succ'}
use lib.Ieee as Ieee
use Rattle.std.specs.Float.Ieee.{prec, low, up, down, size, round, root_below, root_twice, fits}
use Rattle.std.specs.Float.{nan, inf, fin, Format, binary32, binary64}
use lib.Ieee.Digits.{size-lt}
use lib.Ieee.Fits.{two, down_pos}
use lib.Ieee.Positive.{positive, value_pos}
use lib.Ieee.Root.{whole_part}
use Rattle.ieee.specs.Units.{units_of}
use Rattle.ieee.proofs.Bounds.{one_unit}
use Rattle.ieee.proofs.Numbers.{Odd}
use Rattle.ieee.proofs.Units.{positive_value, units_form}
use Rattle.ieee_sqrt.specs.Sqrt.{sqrt, isqrt, round_root}
use Rattle.ieee_sqrt.specs.IsqrtLaws.{IsRoot, isqrt_is}
use Rattle.ieee_sqrt.proofs.Isqrt.{scaled_below, scaled_above, scaled_exact}
use Rattle.ieee_sqrt.proofs.Rounded.{doubled, leading}
use Rattle.ieee_sqrt.proofs.Range.{root_large, wide, places, all_digits, never_half_way}

pub sqrt_positive : (f : Format) (x : Float) → T (positive x) → sqrt f x ≡ round_root f (units_of f x * 2 ^ low f)
unfolding sqrt
sqrt_positive f nan p = absurd p
sqrt_positive f (inf s) p = absurd p
sqrt_positive f (fin true m e) p = absurd p
sqrt_positive f (fin false zero e) p = absurd p
sqrt_positive f (fin false (suc m) e) p = refl

-- ---- n has the root w, and n * 4 ^ j the root v
record Leading (p w : ℕ) : Type 0 where
  g : ℕ
  i : ℕ
  low_g : 2 ^ p ≤ g
  high_g : g < 2 ^ (p + 1)
  from : g * 2 ^ i ≤ w
  to : w < (g + 1) * 2 ^ i

first_of : (p w : ℕ) → 2 ^ p ≤ w → Leading p w
first_of p w h =
    let at = places p w h in
    let i = at.k in
    let above : w < 2 ^ (p + 1 + i) = subst (λ (s : ℕ). w < 2 ^ s) (omega (arith, at.is)) (size-lt w) in
    let room : 2 ^ (p + 1 + i) ≡ 2 ^ (p + 1) * 2 ^ i = pow-add 2 (p + 1) i in
    record {
      g = w / 2 ^ i;
      i = i;
      low_g = (le-div_iff_mul-le (pow_pos i)).1 (omega (arith, at.low_w, pow-add 2 p i));
      high_g = (div-lt_iff_lt-mul (pow_pos i)).1 (omega arith);
      from = (le-div_iff_mul-le (pow_pos i)).0 (omega arith);
      to = (div-lt_iff_lt-mul (pow_pos i)).0 (omega arith);
    }

same : (f : Format) (n w v j : ℕ) → IsRoot n w → IsRoot (n * (2 ^ j * 2 ^ j)) v → 2 ^ prec f ≤ w
    → ((g i : ℕ) → 2 ^ prec f ≤ g → g % 2 ≡ 1 → g * 2 ^ i * (g * 2 ^ i) ≡ n → ⊥)
    → round f false (doubled v (n * (2 ^ j * 2 ^ j))) (2 * 2 ^ j * 2 ^ low f) ≡ round f false (doubled w n) (2 * 2 ^ low f)
same f n w v j root finer large never =
    let at = first_of (prec f) w large in
    let g = at.g in
    let i = at.i in
    let d = 2 ^ i in
    let c = 2 ^ j in
    let above : w * c ≤ v = scaled_below n c w v root finer in
    let below : v < (w + 1) * c = scaled_above n c w v (pow_pos j) root finer in
    let from : g * (d * c) ≤ v = omega (arith, mul-le-mul_right c at.from) in
    let next : w + 1 ≤ (g + 1) * d = omega (arith, at.to) in
    let to : v < (g + 1) * (d * c) = omega (arith, mul-le-mul_right c next) in
    let flat : 2 * 2 ^ 0 * 2 ^ low f ≡ 2 * 2 ^ low f = omega arith in
    leading f (n * (c * c)) v g i j at.low_g at.high_g from to
    (λ o e. never g i at.low_g o (scaled_exact n c (g * d) (pow_pos j) (omega arith)))
    ∙ sym (leading f n w g i 0 at.low_g at.high_g (omega (arith, at.from)) (omega (arith, at.to)) (λ o e. never g i at.low_g o (omega arith)))
    ∙ ap (round f false (doubled w n)) flat

-- ---- 2271 places, in each format
finer : (f : Format) → (j : ℕ) × (low f + j ≡ 2271)
finer binary32 = (2122, refl)
finer binary64 = (1197, refl)

in_places : (a d u l j k : ℕ) → 0 < d → k ≡ l + (l + (j + j)) → a * 2 ^ l ≡ u * d → a * 2 ^ k / d ≡ u * 2 ^ l * (2 ^ j * 2 ^ j)
in_places a d u l j k p h e =
    let q = 2 ^ l * (2 ^ j * 2 ^ j) in
    let apart : 2 ^ k ≡ 2 ^ l * q = ap (λ (i : ℕ). 2 ^ i) h ∙ pow-add 2 l (l + (j + j)) ∙ ap (λ (i : ℕ). 2 ^ l * i)
    (pow-add 2 l (j + j) ∙ ap (λ (i : ℕ). 2 ^ l * i) (pow-add 2 j j)) in
    let all : a * 2 ^ k ≡ u * 2 ^ l * (2 ^ j * 2 ^ j) * d = ap (λ (i : ℕ). a * i) apart ∙ omega (arith, ap (λ (i : ℕ). i * q) e) in
    ap (λ (i : ℕ). i / d) all ∙ mul-div_cancel (u * 2 ^ l * (2 ^ j * 2 ^ j)) p

place : (l j k : ℕ) → k ≡ suc j + l → 2 ^ k ≡ 2 * 2 ^ j * 2 ^ l
place l j k h = ap (λ (i : ℕ). 2 ^ i) h ∙ pow-add 2 (suc j) l ∙ ap (λ (i : ℕ). i * 2 ^ l) (pow-succ' 2 j)

module _ (f : Format) (x : Float) (fit : T (fits f x)) (plus : T (positive x)) where
  n : ℕ
  n = units_of f x * 2 ^ low f

  never : (g i : ℕ) → 2 ^ prec f ≤ g → g % 2 ≡ 1 → g * 2 ^ i * (g * 2 ^ i) ≡ units_of f x * 2 ^ low f → ⊥
  never g i low_g o e =
      let mine = units_form f x fit in
      let some : 1 ≤ prec f = omega (arith, two f) in
      let half : 2 ^ prec f ≡ 2 * 2 ^ (prec f - 1) = all_digits (prec f) some in
      let odd : Odd (g / 2) ≡ g = omega arith in
      never_half_way (2 ^ (prec f - 1)) (low f) i (g / 2) mine.digits mine.places (units_of f x) mine.is (omega (arith, mine.few)) (omega arith)
      (ap (λ (h : ℕ). h * 2 ^ i * (h * 2 ^ i)) odd ∙ e)

  large : 2 ^ prec f ≤ isqrt (units_of f x * 2 ^ low f)
  large = root_large (prec f) (low f) (units_of f x) (isqrt (units_of f x * 2 ^ low f)) (wide f)
      (value_pos x (units_of f x) (2 ^ low f) plus (pow_pos (low f)) (positive_value f x fit plus)) (isqrt_is (units_of f x * 2 ^ low f))

  pub finer_root : (a : ℕ) (j : ℕ) → low f + j ≡ 2271 → a ≡ units_of f x * 2 ^ low f * (2 ^ j * 2 ^ j)
      → round f false (root_twice a) (2 ^ 2272) ≡ round_root f (units_of f x * 2 ^ low f)
  unfolding root_twice round_root
  finer_root a j h e =
      let n = units_of f x * 2 ^ low f in
      let root = whole_part (n * (2 ^ j * 2 ^ j)) in
      ap (λ (b : ℕ). round f false (root_twice b) (2 ^ 2272)) e
      ∙ ap (round f false (root_twice (n * (2 ^ j * 2 ^ j)))) (place (low f) j 2272 (omega arith))
      ∙ same f n (isqrt n) (root_below (size (n * (2 ^ j * 2 ^ j))) (n * (2 ^ j * 2 ^ j))) j (isqrt_is n) (record { below = root.0; above = root.1 }) large never

pub std_sqrt : (f : Format) (x : Float) → T (fits f x) → Ieee.sqrt f x ≡ sqrt f x
unfolding Ieee.sqrt sqrt fits
std_sqrt f nan t = refl
std_sqrt f (inf true) t = refl
std_sqrt f (inf false) t = refl
std_sqrt f (fin s zero e) t = ap (fin s 0) (sym (one_unit e (eqb→eq (up e * down e) 1 t)))
std_sqrt f (fin true (suc m) e) t = refl
std_sqrt f (fin false (suc m) e) t =
    let j = finer f in
    let plus : T (positive (fin false (suc m) e)) = lt→ltb 0 (suc m) (omega arith) in
    finer_root f (fin false (suc m) e) t plus (suc m * up e * 2 ^ 4542 / down e) j.0 j.1
    (in_places (suc m * up e) (down e) (units_of f (fin false (suc m) e)) (low f) j.0 4542 (down_pos e) (omega (arith, j.1))
    (positive_value f (fin false (suc m) e) t plus).1)
