-- `detector_ellipse::Ellipse::good_points_of` meets its contract.
use Rattle.std.proofs.Common.{◌≡◌, ℕ, ◌+◌, ◌<◌, ◌≤◌, Bool, true, false, List, [], ◌∷◌, ◌++◌, length, get_or, take, cond, refl, ap, ◌∙◌, arith}
use Rattle.std.proofs.lemmas.List.{take_more}
use Rattle.std.specs.Float.{nan}
use mir.Val.{bool_byte}
use Rattle.rxing_result_point.specs.declared.PointU.{PointU}
use Rattle.detector_walks.specs.declared.Width.{Width}
use Rattle.detector_ellipse.specs.Ellipse.{in_ellipse, good_points}
use Rattle.detector_ellipse.proofs.Ellipse.good_points_of.Goals as goal

abbrev unread : Width
unread = record { length = 0; left = record { x = nan; y = nan }; right = record { x = nan; y = nan } }

byte_is : (b : Bool) → bool_byte b ≡ cond b 1 0
byte_is true = refl
byte_is false = refl

byte_few : (b : Bool) → bool_byte b ≤ 1
byte_few true = omega arith
byte_few false = omega arith

module _ (center : PointU) (major minor : ℕ) where
  abbrev added : Width → ℕ
  added w = cond (in_ellipse center major minor w.left) 1 0 + cond (in_ellipse center major minor w.right) 1 0

  one_more : (ws : List Width) (w : Width) → good_points center major minor (ws ++ w ∷ []) ≡ good_points center major minor ws + added w
  unfolding good_points
  one_more [] w = omega arith
  one_more (v ∷ vs) w = omega (arith, one_more vs w)

  module _ (ws : List Width) (i : ℕ) {good : ℕ} {left right : Bool} (is : left ≡ in_ellipse center major minor (get_or ws i unread).left)
      (is' : right ≡ in_ellipse center major minor (get_or ws i unread).right) where
    counted : good ≡ good_points center major minor (take i ws) → i < length ws
        → good + bool_byte left + bool_byte right ≡ good_points center major minor (take (i + 1) ws)
    counted e h =
        let more = one_more (take i ws) (get_or ws i unread) in
        let first = byte_is left ∙ ap (λ (b : Bool). cond b 1 0) is in
        let second = byte_is right ∙ ap (λ (b : Bool). cond b 1 0) is' in
        rw (take_more ws i unread h) (omega (arith, more, e, first, second))

pub loop-width-init : goal.loop-width-init
unfolding good_points
loop-width-init c = record { counted = refl; few = omega arith }

pub loop-width-preserved : goal.loop-width-preserved
loop-width-preserved c =
    let h : c.loop-width.width-index < length c.args.widths.now = omega arith in record {
      counted =
          rw (c.from-good.ensures, c.from-good-in-loop-width.ensures)
          (counted _ _ _ c.args.widths.now c.loop-width.width-index c.passes.ensures c.passes-in-loop-width.ensures c.loop-width.invariant.counted h);
      few = omega (arith, byte_few c.passes.result, byte_few c.passes-in-loop-width.result, c.from-good.ensures, c.from-good-in-loop-width.ensures);
    }
