-- `detector_box::turn_of` meets its contract, by the option and the check's answer.
use Rattle.std.proofs.Common.{Bool, true, false, ◌≡◌}
use Rattle.bit_matrix.specs.declared.BitMatrix.{BitMatrix}
use Rattle.bit_matrix.specs.ImageClauses.{RanOn}
use Rattle.bit_matrix.proofs.ImageLaws.{on_bind, on_done, on_then, on_else}
use Rattle.detector_circle.specs.declared.Circle.{Circle}
use Rattle.detector_outcome.specs.declared.Turn.{Turn}
use Rattle.detector_outcome.specs.Outcomes.{ellipse_at}
use Rattle.detector_ellipse.specs.Ellipse.{detect_ellipse}
use Rattle.detector_turn.specs.Scales.{try_scales}
use Rattle.detector_box.specs.Boxes.{turn_at}
use Rattle.detector_box.proofs.turn_of.Goals as goal
use Rattle.detector_box.proofs.turn_of.Goals.{else-ellipse-via-then-ellipse+else-detect_ellipse, else-ellipse-via-else-ellipse}

module _ {i₀ i₁ : BitMatrix} (circle : Circle) (ellipse : Bool) where
  found : {skewed : Bool} → ellipse ≡ true → RanOn (detect_ellipse i₀.shape circle.center) i₀ skewed i₁ → skewed ≡ true
      → RanOn (turn_at ellipse i₀.shape circle) i₀ (ellipse_at circle.center) i₁
  unfolding turn_at
  found on run is = rw on (on_bind _ run (on_then _ _ is (on_done _)))

  module _ {i : BitMatrix} {turn : Turn} (rest : RanOn (try_scales i.shape circle) i turn i₁) where
    passed_over : {skewed : Bool} {i₂ : BitMatrix} → ellipse ≡ true → RanOn (detect_ellipse i₀.shape circle.center) i₀ skewed i₂ → skewed ≡ false → i ≡ i₂
        → RanOn (turn_at ellipse i₀.shape circle) i₀ turn i₁
    unfolding turn_at
    passed_over {i₂ = i₂} on run is same = rw on (on_bind _ run (on_else _ _ is next))
      where
        after : RanOn (try_scales i₂.shape circle) i₂ turn i₁
        after = rw same at rest

        next : RanOn (try_scales i₀.shape circle) i₂ turn i₁
        next = record { kept = after.kept; ran = rw run.kept.shape at after.ran }

    unasked : ellipse ≡ false → i ≡ i₀ → RanOn (turn_at ellipse i₀.shape circle) i₀ turn i₁
    unfolding turn_at
    unasked off same = rw off (rw same at rest)

pub returns-then-detect_ellipse : goal.returns-then-detect_ellipse
returns-then-detect_ellipse c = search found

pub returns : goal.returns
returns c =
    elim c.else-ellipse.branch [
      | else-ellipse-via-then-ellipse+else-detect_ellipse w ↦
          passed_over _ _ c.try_scales.ensures w.if-ellipse.true w.detect_ellipse.ensures w.if-detect_ellipse.false w.image-is
      | else-ellipse-via-else-ellipse w ↦ unasked _ _ c.try_scales.ensures w.if-ellipse.false w.image-is
    ]
