-- A symbol's words for each outcome, and what holds of every turn, with the option on or off. Assumes nothing.
use Rattle.std.specs.Prelude.{ℕ, Bool, true, false, ◌≡◌, replicate, [], ◌∷◌, ◌++◌}
use Rattle.std.proofs.Common.{arith}
use Rattle.std.proofs.Math.Path.{refl}
use mathlib.Core.List.{flat_map}
use Rattle.std.specs.Float.{binary32}
use Rattle.std.specs.Float.Ieee.{of_int, to_bits}
use Rattle.reads.specs.ReadsLaws.{Always}
use Rattle.reads.proofs.ReadsLaws.{always_done, always_after, always_cond}
use Rattle.bit_matrix.specs.declared.Shape.{Shape}
use Rattle.bit_matrix.specs.ShapeClauses.{Inside}
use Rattle.rxing_result_point.specs.declared.PointU.{PointU}
use Rattle.rxing_result_point.specs.Points.{real}
use Rattle.detector_boundary.specs.declared.Boundary.{Boundary}
use Rattle.detector_outcome.specs.Outcomes.{quarter_of, turned_by, not_turned, lost_at, ellipse_at}
use Rattle.detector_corners.specs.Corners.{plain_corners, turned_corners, corners_of}
use Rattle.detector_symbol.specs.Symbols.{four_corners, symbol_words}
use Rattle.detector_box.specs.Boxes.{symbol_of, turn_at}
use Rattle.detector_circle.specs.declared.Circle.{Circle}
use Rattle.detector_turn.specs.ScalesLaws.{Ended, ended}

module _ (b : Boundary) (center : PointU) where
  -- with a turn: 1, the scale, the degree as an f32, the corrected centre, the box turned about it, the degree's quarter
  pub turned_words : (degree scale : ℕ) → symbol_words (symbol_of b (turned_by degree scale center))
      ≡ 1 ∷ scale ∷ to_bits binary32 (real degree) ∷ center.x ∷ center.y ∷ four_corners (turned_corners b center degree) ++ (quarter_of degree ∷ [])
  unfolding symbol_words corners_of
  turned_words degree scale = refl

  -- without: 0, no scale, rotation 0, the last corrected centre, the plain box, class 4
  pub no_turn_words : symbol_words (symbol_of b (not_turned center)) ≡ 0 ∷ 0 ∷ 0 ∷ center.x ∷ center.y ∷ four_corners (plain_corners b) ++ (4 ∷ [])
  unfolding symbol_words corners_of
  no_turn_words = refl

  -- with a lost centre: 2, the scale that lost it, rotation 0, the last centre inside, the plain box, class 4
  pub lost_words : (scale : ℕ) → symbol_words (symbol_of b (lost_at scale center))
      ≡ 2 ∷ scale ∷ 0 ∷ center.x ∷ center.y ∷ four_corners (plain_corners b) ++ (4 ∷ [])
  unfolding symbol_words corners_of
  lost_words scale = refl

  -- an ellipse: 3, no scale, rotation 0, the centre as found, eight zeros for the corners, class 4
  pub ellipse_words : symbol_words (symbol_of b (ellipse_at center)) ≡ 3 ∷ 0 ∷ 0 ∷ center.x ∷ center.y ∷ replicate 8 0 ++ (4 ∷ [])
  unfolding symbol_words corners_of flat_map of_int to_bits
  ellipse_words = refl

-- what holds of every end of the scales holds with the option on too
pub turn_ended : (ellipse : Bool) (shape : Shape) (circle : Circle) → Inside shape circle.center.x circle.center.y
    → Always (Ended shape) (turn_at ellipse shape circle)
unfolding turn_at of_int to_bits
turn_ended false shape circle inside = ended shape circle inside
turn_ended true shape circle inside =
    always_after _ _ λ skewed. always_cond skewed
    (λ _. always_done (record {
      even = refl;
      low = omega arith;
      rotation = refl;
      scale_least = omega arith;
      scale_most = omega arith;
      inside = inside;
    }))
    (λ _. ended shape circle inside)
