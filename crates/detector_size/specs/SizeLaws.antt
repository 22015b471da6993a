-- A symbol of a radius below 2,048 is 6 to 16 radii wide, and about as high. No size is tried out: each operation keeps its value
-- between two whole numbers. Assumes nothing.
use Rattle.std.specs.Prelude.{ℕ, ◌*◌, ◌/◌, ◌^◌, ◌≤◌, ◌<◌, refl, T, pos, Float}
use Rattle.std.proofs.Common.{mul-le-mul, mul-le-mul_right, arith, lit≤}
use Rattle.std.specs.Float.Ieee.{binary64, of_bits, of_int, sub, mul, div, le}
use Rattle.std.specs.Float.Ieee.Fits.{and_l, and_r}
use Rattle.std.specs.Float.Ieee.Positive.{num, den, positive, first_pos, den_pos, own_value, between, le→cross}
use Rattle.ieee.specs.Integral.{floor}
use Rattle.ieee.specs.RoundLaws.{Plain}
use Rattle.ieee.specs.BetweenLaws.{Between, whole_between, mul_between, div_between, floor_between, cast_between}
use Rattle.ieee_sqrt.specs.RootBetweenLaws.{sqrt_between}
use Rattle.detector_size.specs.declared.Size.{Size}
use Rattle.detector_size.specs.Size.{pi, one, ideal_side, guessed_size, plain_size, scaled_size}
use Rattle.detector_size.specs.SizeClauses.{is_scale}

-- y is at least 1 / k and at most 1 / j
record Part (k j : ℕ) (y : Float) : Type 0 where
  plain : Plain y
  least : den y ≤ k * num y
  most : j * num y ≤ den y

part_pos : {k j : ℕ} {y : Float} → Part k j y → 0 < num y
part_pos {k} {j} {y} p = first_pos (num y) k (omega (arith, p.least, den_pos y))

pi_between : Between 3 4 pi
unfolding of_bits
pi_between = record { plain = (refl, refl); low = lit≤ tt; high = lit≤ tt }

module _ (radius : ℕ) (height_adjust circle_percent : Float)
    (small : radius < 2048) (percent : Part 16 12 circle_percent) (rest : Part 4 1 (sub binary64 one height_adjust)) where
  abbrev squared : Float
  squared = of_int binary64 (pos (radius * radius))

  abbrev circle_area : Float
  circle_area = mul binary64 pi squared

  abbrev symbol_area : Float
  symbol_area = div binary64 circle_area circle_percent

  few : radius * radius ≤ 4194304
  few = mul-le-mul {n₂ = 2048} {m₂ = 2048} (omega arith) (omega arith)

  square : Between (radius * radius) (radius * radius) squared
  square = whole_between binary64 (radius * radius) (omega (arith, few))

  circle : Between (3 * (radius * radius)) (4 * (radius * radius)) circle_area
  circle = mul_between binary64 pi squared (omega (arith, few)) pi_between square.plain (omega (arith, square.low)) (omega (arith, square.high))

  symbol : Between (36 * (radius * radius)) (64 * (radius * radius)) symbol_area
  symbol =
      div_between binary64 circle_area circle_percent (omega (arith, few)) circle percent.plain (part_pos percent)
      (omega (arith, mul-le-mul_right (3 * (radius * radius)) percent.most))
      (omega (arith, mul-le-mul_right (4 * (radius * radius)) percent.least))

  adjusted : Between (6 * radius * (6 * radius)) (16 * radius * (16 * radius)) (div binary64 symbol_area (sub binary64 one height_adjust))
  adjusted =
      div_between binary64 symbol_area (sub binary64 one height_adjust) (omega (arith, few)) symbol rest.plain (part_pos rest)
      (omega (arith, mul-le-mul_right (36 * (radius * radius)) rest.most))
      (omega (arith, mul-le-mul_right (64 * (radius * radius)) rest.least))

  side_between : Between (6 * radius) (16 * radius) (ideal_side radius height_adjust circle_percent)
  unfolding ideal_side
  side_between = sqrt_between binary64 _ (omega arith) adjusted

-- what is promised of a size
pub record Sized (radius : ℕ) (size : Size) : Type 0 where
  pub wide : 6 * radius ≤ size.width
  pub narrow : size.width ≤ 16 * radius
  pub high : 6 * radius * 15 / 16 ≤ size.height
  pub low : size.height ≤ 16 * radius

-- where the last factor is from 15 / 16 to 1
last_factor : (radius : ℕ) (side last : Float) → 16 * radius ≤ 2 ^ 53 → Between (6 * radius) (16 * radius) side
    → Plain last → 15 * den last ≤ 16 * num last → num last ≤ den last → Between (6 * radius * 15 / 16) (16 * radius) (mul binary64 side last)
last_factor radius side last counted about plain least most =
    let part : 6 * radius * 15 / 16 * 16 ≤ 6 * radius * 15 = omega arith in
    mul_between binary64 side last counted about plain
    (omega (arith, mul-le-mul_right (den last) part, mul-le-mul_right (6 * radius) least))
    (omega (arith, mul-le-mul_right (16 * radius) most))

sized : (radius : ℕ) (height_adjust circle_percent height_final : Float)
    → radius < 2048 → Part 16 12 circle_percent → Part 4 1 (sub binary64 one height_adjust)
    → Plain height_final → 15 * den height_final ≤ 16 * num height_final → num height_final ≤ den height_final
    → Sized radius (guessed_size radius height_adjust circle_percent height_final)
unfolding guessed_size
sized radius height_adjust circle_percent height_final small percent rest plain least most =
    let side = ideal_side radius height_adjust circle_percent in
    let about : Between (6 * radius) (16 * radius) side = side_between radius height_adjust circle_percent small percent rest in
    let fits : 16 * radius < 2 ^ 32 = omega arith in
    let counted : 16 * radius ≤ 2 ^ 53 = omega arith in
    let tall = mul binary64 side height_final in
    let width = cast_between 32 (floor binary64 side) fits (floor_between binary64 side counted about) in
    let less = last_factor radius side height_final counted about plain least most in
    let height = cast_between 32 (floor binary64 tall) fits (floor_between binary64 tall counted less) in
    record { wide = width.0; narrow = width.1; high = height.0; low = height.1 }

pub plain_sized : (radius : ℕ) → radius < 2048 → Sized radius (plain_size radius)
unfolding of_bits sub
plain_sized radius small =
    sized radius _ _ _ small
    (record { plain = (refl, refl); least = lit≤ tt; most = lit≤ tt })
    (record { plain = (refl, refl); least = lit≤ tt; most = lit≤ tt })
    (refl, refl) (lit≤ tt) (lit≤ tt)

scale_part : (scale : Float) → T (is_scale scale) → Part 16 12 scale
unfolding of_bits
scale_part scale t =
    let low = of_bits binary64 0x3fb0_0000_0000_0000 in
    let high = of_bits binary64 0x3fb4_7ae1_47ae_147b in
    let l = and_l (le low scale) (le scale high) t in
    let h = and_r (le low scale) (le scale high) t in
    let p : T (positive scale) = between low scale high tt tt l h in
    record { plain = own_value scale p; least = omega (arith, le→cross low scale tt p l); most = omega (arith, le→cross scale high p tt h) }

pub scaled_sized : (radius : ℕ) (scale : Float) → radius < 2048 → T (is_scale scale) → Sized radius (scaled_size radius scale)
unfolding of_bits sub
scaled_sized radius scale small t =
    sized radius _ _ _ small (scale_part scale t) (record { plain = (refl, refl); least = lit≤ tt; most = lit≤ tt })
    (refl, refl) (lit≤ tt) (lit≤ tt)
