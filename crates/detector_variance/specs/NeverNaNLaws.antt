-- The variance of small runs is a number, and not negative (`variance_unsigned`). Assumes nothing.
use Rattle.std.specs.Prelude.{◌≡◌, ℕ, zero, suc, ◌+◌, ◌-◌, ◌*◌, ◌/◌, ◌^◌, ◌<◌, ◌≤◌, Bool, true, false, cond, not, ◌&&◌, ◌||◌, T, List, ℤ, pos, negsuc, ◌==◌, nat_lt, slice_index}
use Rattle.std.proofs.Math.Nat.{mul-le-mul}
use Rattle.std.proofs.Common.{arith, mul-pos, le_of_lt, le_of_eq, true≢false, sym, ltb→lt, eqb→eq}
use Rattle.std.specs.Bool.{beq}
use Rattle.std.proofs.Math.Path.{refl}
use Rattle.std.proofs.Math.Dec.{eqb-suc-zero}
use Rattle.std.specs.Float.Ieee.{Float, nan, prec, emax, low, fits, of_bits, of_int, up, down, odd, units, round, sum, add, sub, mul, div, le}
use Rattle.std.specs.Float.{inf, fin, Format, binary32}
use Rattle.std.specs.Float.Ieee.Fits.{down_pos, and_l, div-fits}
use Rattle.std.specs.Float.Ieee.Order.{round_mono}
use Rattle.std.specs.Float.Ieee.Scale.{finite}
use Rattle.ieee.specs.Sign.{abs}
use Rattle.records.specs.RecordsLaws.{either}
use Rattle.rxing_result_point.specs.Points.{real}
use Rattle.detector_variance.specs.Variance.{
  evens,
  odds,
  others,
  takes,
  further,
  width_to,
  variance_to,
  tenth_of_width,
  expected_area,
  area_variance,
  circle_variance,
}

-- not a NaN, and its sign is positive
unfoldable pub unsigned : Float → Bool
unsigned nan = false
unsigned (inf s) = not s
unsigned (fin s m e) = not s

-- ---- a rounded value is an infinity or finite, with the sign that it was given

module _ (P : Float → Type 0) (s : Bool) (infinite : P (inf s)) (small : (m : ℕ) (e : ℤ) → P (fin s m e)) where
  odd_shape : (d q k l : ℕ) → P (odd d s q k l)
  unfolding odd
  odd_shape d zero k l = small zero (pos zero)
  odd_shape d (suc q) k l = small _ _

  units_shape : (f : Format) (q k : ℕ) → P (units f s q k)
  unfolding units
  units_shape f q k =
      either P (nat_lt (q * 2 ^ k) (2 ^ (low f + suc (emax f)))) (odd (suc (prec f)) s q k (low f)) (inf s) (λ _. odd_shape (suc (prec f)) q k (low f))
      (λ _. infinite)

  round_shape : (f : Format) (a b : ℕ) → P (round f s a b)
  unfolding round
  round_shape f a b = units_shape f _ _

unfoldable exists : Float → Bool
exists nan = false
exists (inf s) = true
exists (fin s m e) = true

round_unsigned : (f : Format) (a b : ℕ) → unsigned (round f false a b) ≡ true
unfolding unsigned
round_unsigned f a b = round_shape (λ (x : Float). unsigned x ≡ true) false refl (λ m e. refl) f a b

round_exists : (f : Format) (s : Bool) (a b : ℕ) → exists (round f s a b) ≡ true
unfolding exists
round_exists f s a b = round_shape (λ (x : Float). exists x ≡ true) s refl (λ m e. refl) f a b

-- ---- sums, differences and quotients

module _ (f : Format) where
  sum_exists : (s : Bool) (a : ℕ) (t : Bool) (b c : ℕ) → exists (sum f s a t b c) ≡ true
  unfolding sum
  sum_exists s a t b c =
      let other : Float = cond (nat_lt a b) (round f t (b - a) c) (round f (s && nat_lt b a) (a - b) c) in
      either (λ (x : Float). exists x ≡ true) (beq s t) (round f s (a + b) c) other
      (λ _. round_exists f s (a + b) c)
      (λ _. either (λ (x : Float). exists x ≡ true) (nat_lt a b) (round f t (b - a) c) (round f (s && nat_lt b a) (a - b) c)
      (λ _. round_exists f t (b - a) c) (λ _. round_exists f (s && nat_lt b a) (a - b) c))

  sub_exists : (x y : Float) → unsigned x ≡ true → unsigned y ≡ true → (finite x || finite y) ≡ true → exists (sub f x y) ≡ true
  unfolding unsigned sub exists
  sub_exists nan y px py one = absurd (true≢false (sym px))
  sub_exists (inf s) nan px py one = absurd (true≢false (sym py))
  sub_exists (inf s) (inf t) px py one = absurd (true≢false (sym one))
  sub_exists (inf s) (fin t n d) px py one = refl
  sub_exists (fin s m e) nan px py one = absurd (true≢false (sym py))
  sub_exists (fin s m e) (inf t) px py one = refl
  sub_exists (fin s m e) (fin t n d) px py one = sum_exists s (m * up e * down d) (not t) (n * up d * down e) (down e * down d)

  add_unsigned : (x y : Float) → unsigned x ≡ true → unsigned y ≡ true → unsigned (add f x y) ≡ true
  unfolding unsigned add sum
  add_unsigned nan y px py = absurd (true≢false (sym px))
  add_unsigned (inf true) y px py = absurd (true≢false (sym px))
  add_unsigned (inf false) nan px py = absurd (true≢false (sym py))
  add_unsigned (inf false) (inf true) px py = absurd (true≢false (sym py))
  add_unsigned (inf false) (inf false) px py = refl
  add_unsigned (inf false) (fin t n d) px py = refl
  add_unsigned (fin true m e) y px py = absurd (true≢false (sym px))
  add_unsigned (fin false m e) nan px py = absurd (true≢false (sym py))
  add_unsigned (fin false m e) (inf t) px py = py
  add_unsigned (fin false m e) (fin true n d) px py = absurd (true≢false (sym py))
  add_unsigned (fin false m e) (fin false n d) px py = round_unsigned f _ _

  div_unsigned : (x : Float) (n : ℕ) (d : ℤ) → unsigned x ≡ true → unsigned (div f x (fin false (suc n) d)) ≡ true
  unfolding unsigned div
  div_unsigned nan n d px = absurd (true≢false (sym px))
  div_unsigned (inf true) n d px = absurd (true≢false (sym px))
  div_unsigned (inf false) n d px = refl
  div_unsigned (fin true m e) n d px = absurd (true≢false (sym px))
  div_unsigned (fin false m e) n d px = rw (eqb-suc-zero n) (round_unsigned f _ _)

abs_unsigned : (x : Float) → exists x ≡ true → unsigned (abs x) ≡ true
unfolding unsigned exists abs
abs_unsigned nan e = absurd (true≢false (sym e))
abs_unsigned (inf s) e = refl
abs_unsigned (fin s m e') e = refl

-- ---- runs and areas are finite

under : (x y : Float) → unsigned x ≡ true → T (finite y) → T (le x y) → finite x ≡ true
unfolding unsigned le
under nan y px fy h = absurd (true≢false (sym px))
under (inf true) y px fy h = absurd (true≢false (sym px))
under (inf false) nan px fy h = absurd fy
under (inf false) (inf t) px fy h = absurd fy
under (inf false) (fin t n d) px fy h = absurd h
under (fin s m e) y px fy h = refl

real_unsigned : (n : ℕ) → unsigned (real n) ≡ true
unfolding of_int
real_unsigned n = round_unsigned binary32 n 1

real_finite : (n : ℕ) → n ≤ 2 ^ 30 → finite (real n) ≡ true
unfolding of_int round
real_finite n h =
    under (real n) (real (2 ^ 30)) (real_unsigned n) tt (round_mono binary32 n 1 (2 ^ 30) 1 (omega arith) (omega arith) (omega arith))

real_most : (n : ℕ) → n ≤ 2 ^ 30 → T (le (real n) (fin false 1 (pos 30)))
unfolding of_int round
real_most n h = round_mono binary32 n 1 (2 ^ 30) 1 (omega arith) (omega arith) (omega arith)

finite_bound : T (finite (round binary32 false (2 ^ 30 * 13176795) (2 ^ 22)))
unfolding round
finite_bound = tt

further_unsigned : (expected acc : Float) (n : ℕ) → unsigned expected ≡ true → unsigned acc ≡ true → n < 65536 → unsigned (further expected acc n) ≡ true
unfolding further
further_unsigned expected acc n pe pa h =
    add_unsigned binary32 acc _ pa (abs_unsigned _
    (sub_exists binary32 expected (real n) pe (real_unsigned n) (or_true (finite expected) (real_finite n (omega arith)))))
  where
    or_true : (a : Bool) {b : Bool} → b ≡ true → (a || b) ≡ true
    or_true true e = refl
    or_true false e = e

zero_unsigned : unsigned (of_bits binary32 0) ≡ true
unfolding unsigned of_bits
zero_unsigned = refl

module _ (t h : List ℕ) (short : (k : ℕ) → slice_index h k < 65536) (expected : Float) (pe : unsigned expected ≡ true) where
  total_unsigned : (i : ℕ) → unsigned (variance_to t h expected i) ≡ true
  unfolding variance_to
  total_unsigned zero = zero_unsigned
  total_unsigned (suc i) =
      either (λ (x : Float). unsigned x ≡ true) (takes t i) _ _ (λ _. further_unsigned expected _ _ pe (total_unsigned i) (short i)) (λ _. total_unsigned i)

module_unsigned : (t h v : List ℕ) → unsigned (tenth_of_width t h v) ≡ true
unfolding tenth_of_width of_bits
module_unsigned t h v = div_unsigned binary32 (real (width_to t h v 11)) 4 (pos 1) (real_unsigned (width_to t h v 11))

-- ---- the areas

-- π as the code has it
abbrev π : Float
π = fin false 13176795 (negsuc 21)

scaled_unsigned : (x : Float) → unsigned x ≡ true → finite x ≡ true → unsigned (mul binary32 x π) ≡ true
unfolding unsigned mul
scaled_unsigned nan px fx = absurd (true≢false (sym px))
scaled_unsigned (inf s) px fx = absurd (true≢false (sym fx))
scaled_unsigned (fin true m e) px fx = absurd (true≢false (sym px))
scaled_unsigned (fin false m e) px fx = round_unsigned binary32 (m * up e * (13176795 * up (negsuc 21))) (down e * down (negsuc 21))

at_most : (a b : ℕ) (t : Bool) → T (nat_lt a b || (a == b && t)) → a ≤ b
at_most a b t = go (nat_lt a b) (λ (u : T (nat_lt a b)). le_of_lt (ltb→lt a b u))
  where
    go : (p : Bool) → (T p → a ≤ b) → T (p || (a == b && t)) → a ≤ b
    go true less u = less tt
    go false less u = le_of_eq (eqb→eq a b (and_l (a == b) t u))

-- 2 ^ 30 times π is far from an infinity
scaled_finite : (x : Float) → unsigned x ≡ true → finite x ≡ true → T (le x (fin false 1 (pos 30))) → finite (mul binary32 x π) ≡ true
unfolding unsigned mul le
scaled_finite nan px fx h = absurd (true≢false (sym px))
scaled_finite (inf s) px fx h = absurd (true≢false (sym fx))
scaled_finite (fin true m e) px fx h = absurd (true≢false (sym px))
scaled_finite (fin false m e) px fx h =
    let most : m * up e * 1 ≤ 1 * 2 ^ 30 * down e = at_most (m * up e * 1) (1 * 2 ^ 30 * down e) true h in
    under (mul binary32 (fin false m e) π) (round binary32 false (2 ^ 30 * 13176795) (2 ^ 22)) (scaled_unsigned (fin false m e) px fx) bound
    (round_mono binary32 (m * up e * 13176795) (down e * 2 ^ 22) (2 ^ 30 * 13176795) (2 ^ 22) (mul-pos (down_pos e) (omega arith)) (omega arith) (omega arith))
  where
    bound : T (finite (round binary32 false (2 ^ 30 * 13176795) (2 ^ 22)))
    bound = finite_bound

module _ (n : ℕ) (small : n < 65536) where
  square : ℕ
  square = n / 2 * (n / 2)

  square_small : square ≤ 2 ^ 30
  unfolding square
  square_small =
      let half : n / 2 ≤ 32767 = omega arith in
      omega (arith, mul-le-mul half half)

  area_is : expected_area n ≡ mul binary32 (real square) π
  unfolding expected_area square of_bits
  area_is = refl

  area_unsigned : unsigned (expected_area n) ≡ true
  area_unsigned = rw area_is (scaled_unsigned (real square) (real_unsigned square) (real_finite square square_small))

  area_finite : finite (expected_area n) ≡ true
  area_finite = rw area_is (scaled_finite (real square) (real_unsigned square) (real_finite square square_small) (real_most square square_small))

-- ---- how far the areas are from their mean, and the whole

circle_unsigned : (a b : Float) → unsigned a ≡ true → finite a ≡ true → unsigned b ≡ true → finite b ≡ true → unsigned (area_variance a b) ≡ true
unfolding area_variance of_bits
circle_unsigned a b pa fa pb fb =
    let mean : Float = div binary32 (add binary32 a b) (fin false 1 (pos 1)) in
    let pm : unsigned mean ≡ true = div_unsigned binary32 (add binary32 a b) 0 (pos 1) (add_unsigned binary32 a b pa pb) in
    add_unsigned binary32 (abs (sub binary32 a mean)) (abs (sub binary32 b mean))
    (abs_unsigned (sub binary32 a mean) (sub_exists binary32 a mean pa pm (rw fa)))
    (abs_unsigned (sub binary32 b mean) (sub_exists binary32 b mean pb pm (rw fb)))

pub variance_unsigned : (h v : List ℕ) → ((k : ℕ) → slice_index h k < 65536) → ((k : ℕ) → slice_index v k < 65536) → unsigned (circle_variance h v) ≡ true
unfolding circle_variance of_bits
variance_unsigned h v sh sv =
    let even : Float = variance_to evens h (tenth_of_width evens h v) 11 in
    let other : Float = variance_to others h (tenth_of_width odds h v) 11 in
    let wide : Float = area_variance (expected_area (slice_index v 5)) (expected_area (slice_index h 5)) in
    div_unsigned binary32 (add binary32 (add binary32 even other) wide) 2 (pos 0)
    (add_unsigned binary32 (add binary32 even other) wide
    (add_unsigned binary32 even other
    (total_unsigned evens h sh (tenth_of_width evens h v) (module_unsigned evens h v) 11)
    (total_unsigned others h sh (tenth_of_width odds h v) (module_unsigned odds h v) 11))
    (circle_unsigned (expected_area (slice_index v 5)) (expected_area (slice_index h 5))
    (area_unsigned (slice_index v 5) (sv 5)) (area_finite (slice_index v 5) (sv 5)) (area_unsigned (slice_index h 5) (sh 5)) (area_finite (slice_index h 5) (sh 5))))

-- binary32 holds the variance
pub variance_fits : (h v : List ℕ) → T (fits binary32 (circle_variance h v))
unfolding circle_variance
variance_fits h v =
    div-fits binary32
    (add binary32
    (add binary32 (variance_to evens h (tenth_of_width evens h v) 11) (variance_to others h (tenth_of_width odds h v) 11))
    (area_variance (expected_area (slice_index v 5)) (expected_area (slice_index h 5))))
    (of_bits binary32 0x4040_0000)
