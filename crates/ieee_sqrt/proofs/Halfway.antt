-- The nearest of the numbers that a format holds, by half ways and squares. Nothing here is about floats. Assumes nothing.
use Rattle.std.proofs.Common.{ℕ, suc, ◌+◌, ◌-◌, ◌*◌, ◌/◌, ◌%◌, ◌^◌, ◌≤◌, ◌<◌, add-one, le_refl, le_trans, le_of_eq, le_of_lt, lt_of_lt_of_le, mul_assoc, mul-le-mul, mul-le-mul_left, mul-le-mul_right, div-add-mod', mod-lt, arith, ◌≡◌, sym, ap, ◌∙◌, subst, Bool, true, false, cond, ◌⊎◌, inl, inr, ⊎_elim, T, eqb, eqb→eq, pow_pos, pow-add, pow_mono}
use Rattle.std.proofs.Math.Nat.{eq_of_mul-eq-mul_right, pow-succ'}
use Rattle.std.proofs.Math.Arith.{lt_of_le-ne}
use lib.Ieee.Nearest.{closest}
use Rattle.ieee.proofs.Numbers.{le_or_lt, Odd, odd_square, square_lt}
use Rattle.ieee_sqrt.specs.IsqrtLaws.{IsRoot}
use Rattle.ieee_sqrt.proofs.Closest.{closest_cases}
use Rattle.ieee_sqrt.proofs.Rounded.{doubled, at_most_one}

-- ---- a number of at most p + 1 digits, shifted, is no more than h * 2 ^ k, or no less than the next multiple
scale_back : (a k j : ℕ) → k ≤ j → a * 2 ^ (j - k) * 2 ^ k ≡ a * 2 ^ j
scale_back a k j h =
    let whole : j - k + k ≡ j = omega arith in
    mul_assoc a (2 ^ (j - k)) (2 ^ k) ∙ ap (λ (x : ℕ). a * x) (sym (pow-add 2 (j - k) k) ∙ ap (λ (x : ℕ). 2 ^ x) whole)

next : (a h : ℕ) → h < a → h + 1 ≤ a
next a h l = omega arith

twice : (a p t : ℕ) → a < 2 * p → a * t ≤ p * (2 * t)
twice a p t h =
    let l : a ≤ 2 * p = omega arith in
    omega (arith, mul-le-mul_right t l)

pub spacing : (p k h a j : ℕ) → a < 2 * p → p ≤ h → (a * 2 ^ j ≤ h * 2 ^ k) ⊎ ((h + 1) * 2 ^ k ≤ a * 2 ^ j)
spacing p k h a j small low = ⊎_elim far near (le_or_lt k j)
  where
    far : k ≤ j → (a * 2 ^ j ≤ h * 2 ^ k) ⊎ ((h + 1) * 2 ^ k ≤ a * 2 ^ j)
    far l =
        ⊎_elim (λ s. inl (le_trans (le_of_eq (sym (scale_back a k j l))) (mul-le-mul_right (2 ^ k) s)))
        (λ g. inr (le_trans (mul-le-mul_right (2 ^ k) (next (a * 2 ^ (j - k)) h g)) (le_of_eq (scale_back a k j l))))
        (le_or_lt (a * 2 ^ (j - k)) h)

    near : j < k → (a * 2 ^ j ≤ h * 2 ^ k) ⊎ ((h + 1) * 2 ^ k ≤ a * 2 ^ j)
    near l = inl (le_trans (twice a p (2 ^ j) small)
        (le_trans (mul-le-mul_left p (le_trans (le_of_eq (sym (pow-succ' 2 j))) (pow_mono l))) (mul-le-mul_right (2 ^ k) low)))

-- ---- no number of at most p + 1 digits is the square of an odd one with more, shifted
square_at_least : (o t : ℕ) → 0 < o → 0 < t → o ≤ o * o * t
square_at_least o t p q = omega (arith, mul-le-mul (le_refl o) p, mul-le-mul (mul-le-mul (le_refl o) p) q)

pub no_square : (h a i j : ℕ) → a < Odd h → Odd h * Odd h * 2 ^ i ≡ a * 2 ^ j → ⊥
no_square h a i j small e = ⊎_elim under over (le_or_lt j i)
  where
    under : j ≤ i → ⊥
    under l =
        let o = Odd h in
        let cut : o * o * 2 ^ (i - j) ≡ a = eq_of_mul-eq-mul_right (2 ^ j) (pow_pos j) (o * o * 2 ^ (i - j)) a (scale_back (o * o) j i l ∙ e) in
        omega (arith, cut, square_at_least o (2 ^ (i - j)) (omega arith) (pow_pos (i - j)))

    over : i < j → ⊥
    over l =
        let o = Odd h in
        let some : suc (j - suc i) ≡ j - i = omega arith in
        let cut : o * o ≡ a * 2 ^ (j - i) = eq_of_mul-eq-mul_right (2 ^ i) (pow_pos i) (o * o) (a * 2 ^ (j - i)) (e ∙ sym (scale_back a i j (le_of_lt l))) in
        odd_square h a (2 ^ (j - suc i)) (cut ∙ ap (λ (x : ℕ). a * x) (ap (λ (x : ℕ). 2 ^ x) (sym some) ∙ pow-succ' 2 (j - suc i)))

-- ---- squares
doubled_above : (n m : ℕ) → n < m * m → 4 * n < 2 * m * (2 * m)
doubled_above n m h = omega arith

doubled_below : (n m : ℕ) → m * m < n → 2 * m * (2 * m) < 4 * n
doubled_below n m h = omega arith

-- √n lies on r's side of the half way between v and r
pub record Side (n v r : ℕ) : Type 0 where
  pub smaller : v < r → (v + r) * (v + r) < 4 * n
  pub larger : r < v → 4 * n < (v + r) * (v + r)

-- c is 2 * d, and the half way between h * c and (h + 1) * c is Odd h * d
down_side : (n w h d v : ℕ) → IsRoot n w → h * (2 * d) ≤ w → n < Odd h * d * (Odd h * d) → (v ≤ h * (2 * d)) ⊎ ((h + 1) * (2 * d) ≤ v) → Side n v (h * (2 * d))
down_side n w h d v root low half space = record {
  smaller = λ l.
      let r = h * (2 * d) in
      let less : v + r < 2 * w = omega arith in
      let square : (v + r) * (v + r) < 2 * w * (2 * w) = square_lt (v + r) (2 * w) less in
      let whole : w * w ≤ n = root.below in
      omega arith;
  larger = λ l.
      let r = h * (2 * d) in
      let m = Odd h * d in
      let far : (h + 1) * (2 * d) ≤ v = ⊎_elim (λ s. absurd (omega arith)) (λ g. g) space in
      let more : 2 * m ≤ v + r = omega arith in
      let square : 2 * m * (2 * m) ≤ (v + r) * (v + r) = mul-le-mul more more in
      omega (arith, doubled_above n m half, square);
}

up_side : (n w h d v : ℕ) → IsRoot n w → w < (h + 1) * (2 * d) → Odd h * d * (Odd h * d) < n → (v ≤ h * (2 * d)) ⊎ ((h + 1) * (2 * d) ≤ v)
    → Side n v ((h + 1) * (2 * d))
up_side n w h d v root high half space = record {
  smaller = λ l.
      let r = (h + 1) * (2 * d) in
      let m = Odd h * d in
      let near : v ≤ h * (2 * d) = ⊎_elim (λ s. s) (λ g. absurd (omega arith)) space in
      let less : v + r ≤ 2 * m = omega arith in
      let square : (v + r) * (v + r) ≤ 2 * m * (2 * m) = mul-le-mul less less in
      omega (arith, doubled_below n m half, square);
  larger = λ l.
      let r = (h + 1) * (2 * d) in
      let more : 2 * (w + 1) ≤ v + r = omega arith in
      let square : 2 * (w + 1) * (2 * (w + 1)) ≤ (v + r) * (v + r) = mul-le-mul more more in
      omega (arith, doubled_above n (w + 1) root.above, square);
}

-- ---- the doubled root, 2w or 2w + 1, in units of 2 * c: on which side of the half way it lies, so does √n
half_up : (n w m : ℕ) → IsRoot n w → 2 * m ≤ doubled w n → m * m ≤ n
half_up n w m root h =
    let at : m ≤ w = omega (arith, at_most_one (eqb (w * w) n)) in
    le_trans (mul-le-mul at at) root.below

half_down : (n w m : ℕ) → IsRoot n w → doubled w n ≤ 2 * m → n ≤ m * m
half_down n w m root = go (eqb (w * w) n) (eqb→eq (w * w) n)
  where
    go : (b : Bool) → (T b → w * w ≡ n) → 2 * w + cond b 0 1 ≤ 2 * m → n ≤ m * m
    go true e h = let at : w ≤ m = omega arith in le_trans (le_of_eq (sym (e tt))) (mul-le-mul at at)
    go false e h = let at : w + 1 ≤ m = omega arith in le_of_lt (lt_of_lt_of_le root.above (mul-le-mul at at))

-- h, what the doubled root is in whole units, and r, what it is rounded to
pub record Kept (n w d h q : ℕ) : Type 0 where
  pub low : h * (2 * d) ≤ w
  pub high : w < (h + 1) * (2 * d)
  pub near : (q ≤ h + 1)
  pub side : (Odd h * d * (Odd h * d) ≡ n → ⊥) → (v : ℕ) → (v ≤ h * (2 * d)) ⊎ ((h + 1) * (2 * d) ≤ v) → Side n v (q * (2 * d))

pub kept : (n w d : ℕ) → 0 < d → IsRoot n w → Kept n w d (doubled w n / (2 * (2 * d))) (closest (doubled w n) (2 * (2 * d)))
kept n w d p root = record {
  low = omega (arith, all, at_most_one (eqb (w * w) n));
  high = omega (arith, all, rest, at_most_one (eqb (w * w) n));
  near = ⊎_elim (λ x. omega (arith, x.0)) (λ x. omega (arith, x.0)) (closest_cases a b);
  side = λ no v space.
      ⊎_elim
      (λ x. subst (λ (q : ℕ). Side n v (q * (2 * d))) (sym x.0)
      (down_side n w h d v root (omega (arith, all, at_most_one (eqb (w * w) n)))
      (lt_of_le-ne (half_down n w (Odd h * d) root (omega (arith, all, x.1))) (λ e. no (sym e)))
      space))
      (λ x. subst (λ (q : ℕ). Side n v (q * (2 * d))) (sym (x.0 ∙ sym (add-one h)))
      (up_side n w h d v root (omega (arith, all, rest, at_most_one (eqb (w * w) n)))
      (lt_of_le-ne (half_up n w (Odd h * d) root (omega (arith, all, x.1))) no)
      space))
      (closest_cases a b);
}
  where
    a : ℕ
    a = doubled w n

    b : ℕ
    b = 2 * (2 * d)

    h : ℕ
    h = a / b

    all : doubled w n / (2 * (2 * d)) * (2 * (2 * d)) + doubled w n % (2 * (2 * d)) ≡ doubled w n
    all = div-add-mod' (doubled w n) (2 * (2 * d))

    rest : doubled w n % (2 * (2 * d)) < 2 * (2 * d)
    rest = mod-lt (doubled w n) (omega arith)
