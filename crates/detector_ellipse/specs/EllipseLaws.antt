-- That the lengths from a found centre are short (`short_widths`), that no eccentricity is equal halves (`no_eccentricity`), that the test of the good
-- points is the source's in f32 (`four_fifths_f32`), and that there are 144 of them at most (`walked_72`, `good_few`). Assumes nothing.
use Rattle.std.specs.Prelude.{◌≡◌, ℕ, zero, suc, ◌+◌, ◌-◌, ◌*◌, ◌<◌, ◌≤◌, max, Bool, true, false, cond, not, ◌&&◌, T, ◌↔◌, List, [], ◌∷◌, ◌++◌, length, ◌==◌}
use Rattle.std.proofs.Math.Decide.{dec_lt}
use Rattle.std.proofs.Common.{mul-lt-mul_of_pos_right, mul-le-mul_right, arith, sym, subst, ◌∙◌, length-append}
use Rattle.std.specs.Bool.{beq}
use Rattle.std.specs.Float.{binary32}
use Rattle.std.specs.Float.Ieee.{div, lt, of_bits, of_int}
use Rattle.ieee_sqrt.specs.Sqrt.{isqrt}
use Rattle.ieee_sqrt.specs.IsqrtLaws.{isqrt_is, root_at_most}
use Rattle.reads.specs.Reads.{Reads}
use Rattle.reads.specs.ReadsLaws.{On, Always}
use Rattle.reads.proofs.ReadsLaws.{on_done, on_bind, always_done, always_after}
use Rattle.reads.specs.Bits.{bit_at}
use Rattle.reads.specs.Runs.{value_of}
use Rattle.reads.specs.EveryLaws.{every, every_at, same_truth}
use Rattle.bit_matrix.specs.declared.Shape.{Shape}
use Rattle.bit_matrix.specs.ShapeClauses.{Limits, Inside}
use Rattle.bit_matrix.specs.FlankedClauses.{Flanked}
use Rattle.rxing_result_point.specs.declared.PointU.{PointU}
use Rattle.rxing_result_point.specs.Points.{real}
use Rattle.detector_walks.specs.declared.Width.{Width}
use Rattle.detector_walks.specs.LengthLaws.{short_length}
use Rattle.detector_ellipse.specs.Ellipse.{widths_from, widths_about, longest, shortest, semi_major, semi_minor}
use Rattle.detector_ellipse.specs.Ellipse.{linear_eccentricity, in_ellipse, good_points, four_fifths}

-- ---- the longest and the shortest length

longest_last : (ws : List Width) (w : Width) → longest (ws ++ w ∷ []) ≡ max (longest ws) w.length
unfolding longest
longest_last [] w = omega arith
longest_last (v ∷ vs) w = omega (arith, longest_last vs w)

pub shortest_least : (n : ℕ) (ws : List Width) → shortest n ws ≤ n
unfolding shortest
shortest_least n [] = omega arith
shortest_least n (w ∷ ws) = omega (arith, shortest_least n ws)

-- the shorter half is not above the longer
minor_least : (widths : List Width) → semi_minor widths ≤ semi_major widths
minor_least widths = omega (arith, shortest_least (longest widths) widths)

-- ---- the lengths from a found centre

module _ {shape : Shape} (limits : Limits shape) (center : PointU) (inside : Inside shape center.x center.y) (words : List ℕ)
    (flanked : Flanked shape (bit_at words) center.x center.y) where
  short_from : (n i : ℕ) (widths : List Width) → i + n ≤ 72 → longest widths < 50000
      → On (bit_at words) (λ (ws : List Width). longest ws < 50000) (widths_from shape center n i widths)
  unfolding widths_from value_of
  short_from zero i widths h short = on_done (bit_at words) short
  short_from (suc n) i widths h short =
      on_bind (bit_at words) {Q = λ (w : Width). w.length < 50000} _ (record { holds = short_length limits center inside words flanked i (omega arith) })
      λ w less. short_from n (i + 1) (widths ++ w ∷ []) (omega arith) (rw (longest_last widths w) (omega arith))

  -- every one of the 72 lengths is under 50,000
  pub short_widths : On (bit_at words) (λ (ws : List Width). longest ws < 50000) (widths_about shape center)
  unfolding widths_about longest
  short_widths = short_from 72 0 [] (omega arith) (omega arith)

-- ---- the eccentricity is 0 exactly where the halves are equal

equal_squares : (a b : ℕ) → b ≤ a → a * a ≤ b * b → a ≡ b
equal_squares a b h k = go (dec_lt b a)
  where
    go : Dec (b < a) → a ≡ b
    go (yes less) = absurd (omega (arith, k, mul-le-mul_right b h, mul-lt-mul_of_pos_right {k = a} less (omega arith)))
    go (no same) = omega arith

pub no_eccentricity : (widths : List Width) → (linear_eccentricity widths ≡ 0) ↔ (semi_major widths ≡ semi_minor widths)
unfolding linear_eccentricity
no_eccentricity widths =
    let a = semi_major widths in
    let b = semi_minor widths in
    let n = a * a - b * b in (
      (λ none. equal_squares a b (minor_least widths) (omega (arith, subst (λ (r : ℕ). n < (r + 1) * (r + 1)) none (isqrt_is n).above))),
      (λ same. subst (λ (c : ℕ). isqrt (c * c - b * b) ≡ 0) (sym same) (omega (arith, root_at_most 0 (isqrt_is (b * b - b * b)) (omega arith)))),
    )

-- ---- four fifths of the points

-- too few points are good, as the source says it: some are not, and the good ones by all, in f32, are under 0.8
abbrev pub too_few_f32 : ℕ → Bool
too_few_f32 good = not (good == 144) && lt (div binary32 (real good) (real 144)) (of_bits binary32 0x3f4c_cccd)

abbrev same_few : ℕ → Bool
same_few good = beq (too_few_f32 good) (not (four_fifths good))

four_fifths_pass : T (every same_few 145)
unfolding lt div of_int of_bits
four_fifths_pass = tt

pub four_fifths_f32 : (good : ℕ) → good ≤ 144 → too_few_f32 good ≡ not (four_fifths good)
four_fifths_f32 good h = same_truth _ _ (every_at same_few 145 four_fifths_pass good (omega arith))

-- ---- there are 144 points

walked_from : (shape : Shape) (center : PointU) (n i : ℕ) (widths : List Width)
    → Always (λ (ws : List Width). length ws ≡ length widths + n) (widths_from shape center n i widths)
unfolding widths_from
walked_from shape center zero i widths = always_done (omega arith)
walked_from shape center (suc n) i widths = always_after _ _ λ w. later w (walked_from shape center n (i + 1) (widths ++ w ∷ []))
  where
    later : (w : Width) {p : Reads (List Width)} → Always (λ (ws : List Width). length ws ≡ length (widths ++ w ∷ []) + n) p
        → Always (λ (ws : List Width). length ws ≡ length widths + suc n) p
    later w always = record { on = λ image. always.on image ∙ omega (arith, length-append widths (w ∷ [])) }

pub walked_72 : (shape : Shape) (center : PointU) → Always (λ (ws : List Width). length ws ≡ 72) (widths_about shape center)
unfolding widths_about
walked_72 shape center = walked_from shape center 72 0 []

pub good_few : (center : PointU) (major minor : ℕ) (ws : List Width) → good_points center major minor ws ≤ 2 * length ws
unfolding good_points
good_few center major minor [] = omega arith
good_few center major minor (w ∷ ws) =
    omega (arith, at_most_one (in_ellipse center major minor w.left), at_most_one (in_ellipse center major minor w.right), good_few center major minor ws)
  where
    at_most_one : (b : Bool) → cond b 1 0 ≤ 1
    at_most_one true = omega arith
    at_most_one false = omega arith
