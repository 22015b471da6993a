-- `detector_ellipse::is_ellipse` meets its contract: half of a short length, squared, stays in 32 bits, and each return is a case of the definition. Assumes
-- nothing.
use Rattle.std.proofs.Common.{◌≡◌, ℕ, ◌+◌, ◌-◌, ◌*◌, ◌/◌, ◌^◌, ◌<◌, ◌≤◌, false, List, sym, refl, ap, ◌∙◌, ap₂, mul-le-mul, arith, eq-eqb, ne_eqb, le_antisymm}
use Rattle.ieee_sqrt.specs.Sqrt.{isqrt}
use Rattle.ieee_sqrt.specs.IsqrtLaws.{IsRoot, isqrt_is, root_at_least}
use Rattle.rxing_result_point.specs.declared.PointU.{PointU}
use Rattle.detector_walks.specs.declared.Width.{Width}
use Rattle.detector_ellipse.specs.Ellipse.{longest, shortest, semi_major, semi_minor, linear_eccentricity, good_points, four_fifths, is_ellipse}
use Rattle.detector_ellipse.specs.EllipseLaws.{shortest_least}
use Rattle.detector_ellipse.proofs.is_ellipse.Goals as goal

-- what std ensures of its root is that of the definition
root_of : (n root : ℕ) → root * root ≤ n → n < (root + 1) * (root + 1) → root ≡ isqrt n
root_of n root low high =
    let is : IsRoot n root = record { below = low; above = high } in
    le_antisymm (root_at_least root (isqrt_is n) low) (root_at_least (isqrt n) is (isqrt_is n).below)

module _ (widths : List Width) {long short : ℕ} (most : long ≡ longest widths) (least : short ≡ shortest long widths) where
  ordered : short / 2 ≤ long / 2
  ordered = omega (arith, least, shortest_least long widths)

  no_less : short / 2 * (short / 2) ≤ long / 2 * (long / 2)
  no_less = mul-le-mul ordered ordered

  major_is : long / 2 ≡ semi_major widths
  major_is = ap (λ (n : ℕ). n / 2) most

  minor_is : short / 2 ≡ semi_minor widths
  minor_is = ap (λ (n : ℕ). n / 2) (least ∙ ap (λ (n : ℕ). shortest n widths) most)

  module _ {root : ℕ} (low : root * root ≤ long / 2 * (long / 2) - short / 2 * (short / 2))
      (high : long / 2 * (long / 2) - short / 2 * (short / 2) < (root + 1) * (root + 1)) where
    root_is : root ≡ linear_eccentricity widths
    unfolding linear_eccentricity
    root_is = root_of _ root low high ∙ ap₂ (λ (a b : ℕ). isqrt (a * a - b * b)) major_is minor_is

    circle : (center : PointU) → root ≡ 0 → false ≡ is_ellipse center widths
    unfolding is_ellipse
    circle center none = rw (eq-eqb (linear_eccentricity widths) 0 (sym root_is ∙ none)) refl

    tested : (center : PointU) {good : ℕ} → (root ≡ 0 → ⊥) → good ≡ good_points center (long / 2) (short / 2) widths
        → four_fifths good ≡ is_ellipse center widths
    unfolding is_ellipse
    tested center some counted =
        rw (ne_eqb (linear_eccentricity widths) 0 (λ e. some (root_is ∙ e)))
        (ap four_fifths (counted ∙ ap₂ (λ (a b : ℕ). good_points center a b widths) major_is minor_is))

module _ (widths : List Width) {long : ℕ} (most : long ≡ longest widths) (low : longest widths < 50000) where
  major_fits : long / 2 * (long / 2) < 2 ^ 32
  major_fits =
      let half : long / 2 ≤ 25000 = omega (arith, most, low) in
      omega (arith, mul-le-mul half half)

  minor_fits : {short : ℕ} → short ≡ shortest long widths → short / 2 * (short / 2) < 2 ^ 32
  minor_fits least = omega (arith, major_fits, no_less widths most least)

pub overflow_mul-minor : goal.overflow_mul-minor
overflow_mul-minor c = search minor_fits

pub overflow_sub-major : goal.overflow_sub-major
overflow_sub-major c = search no_less

pub returns-then-linear_eccentricity-eq0 : goal.returns-then-linear_eccentricity-eq0
returns-then-linear_eccentricity-eq0 c = search circle

pub returns : goal.returns
returns c = search tested
