-- What holds of a turn, on every image; and that the boundary of a scale is all that its points need of circle and scale. Assumes nothing.
use Rattle.std.specs.Prelude.{Bool, true, false, ◌||◌, List, ◌≡◌, refl, T, leb, Float, Option, None, Some, get_or, ℕ, zero, suc, ◌+◌, ◌-◌, ◌%◌, ◌≤◌, ◌<◌}
use Rattle.std.proofs.Common.{true≢false, ap, ◌∙◌, arith, leb-false}
use Rattle.std.specs.Float.{nan, binary32}
use Rattle.std.specs.Float.Ieee.{of_bits, of_int, to_bits, le}
use Rattle.reads.specs.EveryLaws.{every_at}
use Rattle.reads.specs.Reads.{Reads, done}
use Rattle.reads.specs.ReadsLaws.{Always}
use Rattle.reads.proofs.ReadsLaws.{always_done, always_bind, always_after, always_cond}
use Rattle.bit_matrix.specs.declared.Shape.{Shape}
use Rattle.bit_matrix.specs.ShapeClauses.{Inside}
use Rattle.rxing_result_point.specs.declared.PointU.{PointU}
use Rattle.rxing_result_point.specs.Points.{real}
use Rattle.detector_size.specs.SizeClauses.{is_scale}
use Rattle.detector_boundary.specs.declared.Boundary.{Boundary}
use Rattle.detector_boundary.specs.Boundary.{scaled_boundary}
use Rattle.detector_boundary.specs.BoundaryClauses.{Centered, Placed}
use Rattle.detector_boundary.specs.InImageLaws.{scaled_placed}
use Rattle.detector_points.specs.Orientation.{orientation_points}
use Rattle.detector_points.specs.SourcePoints.{scaled_points}
use Rattle.detector_points.specs.PointsLaws.{points_by_boundary}
use Rattle.detector_circle.specs.declared.Circle.{Circle}
use Rattle.detector_degrees.specs.Degrees.{if_rotation, try_degrees}
use Rattle.detector_degrees.specs.DegreesLaws.{Tried, tried, degrees_by_angle}
use Rattle.detector_outcome.specs.declared.Outcome.{Outcome}
use Rattle.detector_outcome.specs.declared.Outcome.TheVariants.{Turned, NoTurn, LostCentre, Ellipse}
use Rattle.detector_outcome.specs.declared.Turn.{Turn}
use Rattle.detector_outcome.specs.Outcomes.{if_outcome, scale_of, rotation_bits, turned_by}
use Rattle.detector_turn.specs.Scales.{accepted_scales, accepted_scale, is_outside, attempt_rotation_box, scales_from, try_scales}
use Rattle.detector_turn.specs.SourceScales.{attempt_at_each_point}
use Rattle.detector_turn.specs.ScalesClauses.{LentCircle}

-- A degree is even and at most 348, and 0 without a turn. The rotation is the degree as an f32. With a turn or a lost centre the scale is 1 to 5, else 0.
-- The centre lies inside the image.
pub record Ended (shape : Shape) (turn : Turn) : Type 0 where
  pub even : turn.degree % 2 ≡ 0
  pub low : turn.degree ≤ 348
  pub rotation : rotation_bits turn.outcome ≡ to_bits binary32 (real turn.degree)
  pub scale_least : if_outcome (λ r. 1) 0 1 0 turn.outcome ≤ turn.scale
  pub scale_most : turn.scale ≤ if_outcome (λ r. 5) 0 5 0 turn.outcome
  pub inside : Inside shape turn.center.x turn.center.y

-- then the scale beside the outcome is the one that turned or lost the centre, and 0 without
pub scale_word : {shape : Shape} (turn : Turn) → Ended shape turn → scale_of turn ≡ turn.scale
scale_word turn e = by turn.outcome e.scale_most
  where
    by : (outcome : Outcome) → turn.scale ≤ if_outcome (λ r. 5) 0 5 0 outcome → if_outcome (λ rotation. turn.scale) 0 turn.scale 0 outcome ≡ turn.scale
    by (Turned rotation) most = refl
    by NoTurn most = omega (arith, most)
    by LostCentre most = refl
    by Ellipse most = omega (arith, most)

neither : (a b : Bool) → (a || b) ≡ false → (a ≡ false) × (b ≡ false)
neither true b e = absurd (true≢false e)
neither false b e = (refl, e)

pub inside_of : (shape : Shape) (p : PointU) → is_outside shape p ≡ false → Inside shape p.x p.y
unfolding is_outside
inside_of shape p e =
    let parts = neither (leb shape.width p.x) (leb shape.height p.y) e in
    record { column = leb-false _ _ parts.0; row = leb-false _ _ parts.1 }

pub centered_of : {shape : Shape} {words marks : List ℕ} {circle : Circle} → LentCircle shape words marks circle
    → Centered shape circle.center
centered_of lent = record { limits = lent.lent.image.limits; inside = lent.lent.inside }

no_rotation : 0 ≡ to_bits binary32 (real 0)
unfolding to_bits of_int
no_rotation = refl

module _ (shape : Shape) where
  attempted : (circle : Circle) (scale : ℕ) → Always Tried (attempt_rotation_box shape circle (accepted_scale scale))
  unfolding attempt_rotation_box
  attempted circle scale = tried shape circle.center _

  ended_from : (n scale : ℕ) (circle : Circle) → 1 ≤ scale → scale + n ≤ 6 → Inside shape circle.center.x circle.center.y
      → Always (Ended shape) (scales_from shape n scale circle)
  unfolding scales_from
  ended_from zero scale circle first last inside =
      always_done (record { even = refl; low = omega arith; rotation = no_rotation; scale_least = omega arith; scale_most = omega arith; inside = inside })
  ended_from (suc n) scale circle first last inside =
      always_after _ _ λ next. always_cond (is_outside shape next.center)
      (λ e. always_done (record { even = refl; low = omega arith; rotation = no_rotation; scale_least = first; scale_most = omega arith; inside = inside }))
      (λ e.
      let here : Inside shape next.center.x next.center.y = inside_of shape next.center e in
      always_bind _ (attempted next scale) (tested next _ here (ended_from n (scale + 1) next (omega arith) (omega arith) here)))
    where
      tested : (next : Circle) (rest : Reads Turn) → Inside shape next.center.x next.center.y → Always (Ended shape) rest
          → (rotation : Option ℕ) → Tried rotation → Always (Ended shape) (if_rotation rest (λ degree. done (turned_by degree scale next.center)) rotation)
      tested next rest here later None t = later
      tested next rest here later (Some degree) t =
          always_done (record { even = t.even; low = t.low; rotation = refl; scale_least = first; scale_most = omega arith; inside = here })

  pub ended : (circle : Circle) → Inside shape circle.center.x circle.center.y → Always (Ended shape) (try_scales shape circle)
  unfolding try_scales
  ended circle inside = ended_from 5 1 circle (omega arith) (omega arith) inside

-- ---- the boundary once for each scale

-- every accepted scale is one that the boundaries take
pub scale_accepted : (scale : ℕ) → 1 ≤ scale → scale < 6 → T (is_scale (accepted_scale scale))
unfolding accepted_scale of_bits le
scale_accepted scale first last = every_at (λ (i : ℕ). is_scale (get_or accepted_scales i nan)) 5 tt (scale - 1) (omega arith)

-- the boundary is one that a scale can give, and the points are its points
pub record OfBoundary (b : Boundary) (points : List (List PointU)) : Type 0 where
  pub placed : Placed b
  pub same : points ≡ orientation_points b

-- Each of the five scales, about a centre inside the image and with the radius of a candidate, gives such a boundary, and its eighteen points are those of
-- the boundary.
pub scale_points : {shape : Shape} {center : PointU} {radius : ℕ} (scale : ℕ) → Centered shape center → 6 ≤ radius → radius ≤ 1018 → 1 ≤ scale → scale ≤ 5
    → OfBoundary (scaled_boundary shape center radius (accepted_scale scale)) (scaled_points shape center radius (accepted_scale scale))
scale_points {shape} {center} {radius} scale centered least most first last = record {
  placed = scaled_placed (accepted_scale scale) centered least (omega arith) (scale_accepted scale first (omega arith));
  same = points_by_boundary shape center radius (accepted_scale scale) refl;
}

-- A scale as the source tries it reads and finds the same as one whose boundary is made once.
pub same_attempt : (shape : Shape) (circle : Circle) (scale : Float) → attempt_at_each_point shape circle scale ≡ attempt_rotation_box shape circle scale
unfolding attempt_at_each_point attempt_rotation_box
same_attempt shape circle scale =
    degrees_by_angle shape circle.center _
    ∙ ap (try_degrees shape circle.center) (points_by_boundary shape circle.center circle.radius scale refl)
