-- `detector_turn::try_scales` meets its contract.
use Rattle.std.specs.Prelude.{◌≡◌, refl, ℕ, suc, ◌+◌, ◌-◌, ◌≤◌, ◌<◌, Bool, true, false, get_or, T, Float, Option, None, Some}
use Rattle.std.specs.Float.{nan}
use Rattle.std.proofs.Common.{sym, ap, ◌∙◌, arith}
use Rattle.reads.specs.ReadsLaws.{Always}
use Rattle.reads.proofs.ReadsLaws.{always_done, always_after}
use Rattle.reads.specs.RunsClauses.{Ran}
use Rattle.reads.proofs.RunsLaws.{ran_done, always_ran, resumes_start, resumes_step, resumes_then, resumes_else, resumes_end}
use Rattle.bit_matrix.specs.declared.Shape.{Shape}
use Rattle.bit_matrix.specs.declared.BitMatrix.{BitMatrix}
use Rattle.bit_matrix.specs.ImageClauses.{Kept, RanOn}
use Rattle.bit_matrix.proofs.ImageLaws.{kept_same, kept_on, onto}
use Rattle.rxing_result_point.specs.Points.{real}
use Rattle.detector_size.specs.SizeClauses.{is_scale}
use Rattle.detector_circle.specs.declared.Circle.{Circle}
use Rattle.detector_circle.specs.Circle.{corrected_circle}
use Rattle.detector_outcome.specs.declared.Turn.{Turn}
use Rattle.detector_outcome.specs.declared.Outcome.TheVariants.{Turned}
use Rattle.detector_outcome.specs.Outcomes.{not_turned, lost_at}
use Rattle.detector_turn.specs.Scales.{accepted_scales, accepted_scale, is_outside, attempt_rotation_box, scales_from, try_scales}
use Rattle.detector_turn.specs.ScalesClauses.{InsideCircle}
use Rattle.detector_turn.specs.ScalesLaws.{inside_of, scale_accepted}
use Rattle.detector_turn.proofs.try_scales.Invariants.{Trying}
use Rattle.detector_turn.proofs.try_scales.Goals as goal

-- the centre's correction keeps the radius
radius_kept : (shape : Shape) (circle : Circle) → Always (λ (next : Circle). next.radius ≡ circle.radius) (corrected_circle shape circle)
unfolding corrected_circle
radius_kept shape circle = always_after _ _ λ center. always_done refl

begins : {first : BitMatrix} {circle : Circle} → InsideCircle first.shape circle → Trying first circle first circle 0
unfolding try_scales
begins circled = record { kept = kept_same; circled = circled; resumes = resumes_start }

-- the present scale, as the loop reads it
scale_read : (i : ℕ) → get_or accepted_scales i nan ≡ accepted_scale (i + 1)
unfolding accepted_scale
scale_read i = ap (λ (k : ℕ). get_or accepted_scales k nan) (omega arith)

is_scale_lem : (i : ℕ) → i < 5 → T (is_scale (get_or accepted_scales i nan))
is_scale_lem i h = rw (scale_read i) (scale_accepted (i + 1) (omega arith) (omega arith))

module _ {first image : BitMatrix} {start circle : Circle} {i : ℕ} (trying : Trying first start image circle i) where
  abbrev Result : Turn → BitMatrix → Type 0
  Result r after = RanOn (try_scales first.shape start) first r after

  at_end : 5 ≤ i → Result (not_turned circle.center) image
  unfolding scales_from
  at_end h =
      let none : 5 - i ≡ 0 = omega arith in
      record { kept = trying.kept; ran = resumes_end (ran_done _) (rw none at trying.resumes) }

  module _ (h : i < 5) {next : Circle} {after : BitMatrix} (run : RanOn (corrected_circle image.shape circle) image next after)
      {out : Bool} (asked : out ≡ is_outside after.shape next.center) where
    left : 5 - i ≡ suc (5 - (i + 1))
    left = omega arith

    kept : Kept first after
    kept = kept_on trying.kept run.kept

    ran : Ran (corrected_circle first.shape circle) first.words.now image.marks.now next after.marks.now
    ran = onto (λ (shape : Shape). corrected_circle shape circle) trying.kept run

    answer : is_outside first.shape next.center ≡ out
    answer = rw kept.shape at (sym asked)

    outside : out ≡ true → Result (lost_at (i + 1) circle.center) after
    unfolding scales_from
    outside t = record {
      kept = kept;
      ran = resumes_end (ran_done _) (resumes_then _ _ (answer ∙ t) (resumes_step _ ran (rw left at trying.resumes)));
    }

    same_radius : next.radius ≡ circle.radius
    same_radius = always_ran (radius_kept first.shape circle) ran

    module _ (f : out ≡ false) where
      -- the corrected circle, its centre inside
      circled_next : InsideCircle after.shape next
      circled_next = record {
        inside = inside_of after.shape next.center (sym asked ∙ f);
        least = rw same_radius trying.circled.least;
        most = rw same_radius trying.circled.most;
      }

      module _ {rotation : Option ℕ} {last : BitMatrix}
          (tried : RanOn (attempt_rotation_box after.shape next (get_or accepted_scales i nan)) after rotation last) where
        ran_on : Ran (attempt_rotation_box first.shape next (accepted_scale (i + 1))) first.words.now after.marks.now rotation last.marks.now
        ran_on = rw (scale_read i) at (onto (λ (shape : Shape). attempt_rotation_box shape next (get_or accepted_scales i nan)) kept tried)

        found : {degree : ℕ} {turned : Float} → rotation ≡ Some degree → turned ≡ real degree
            → Result (record { outcome = Turned turned; degree = degree; scale = i + 1; center = next.center }) last
        unfolding scales_from
        found is same = rw same record {
          kept = kept_on kept tried.kept;
          ran =
              resumes_end (ran_done _)
              (resumes_step _ (rw is at ran_on) (resumes_else _ _ (answer ∙ f) (resumes_step _ ran (rw left at trying.resumes))));
        }

        onward : rotation ≡ None → Trying first start last next (i + 1)
        unfolding scales_from
        onward is = record {
          kept = kept_on kept tried.kept;
          circled = rw tried.kept.shape circled_next;
          resumes = resumes_step _ (rw is at ran_on) (resumes_else _ _ (answer ∙ f) (resumes_step _ ran (rw left at trying.resumes)));
        }

pub loop-i-init : goal.loop-i-init
loop-i-init c = search begins

pub returns-then-is_outside : goal.returns-then-is_outside
returns-then-is_outside c = search outside

pub attempt_rotation_box-rotation-requires : goal.attempt_rotation_box-rotation-requires
attempt_rotation_box-rotation-requires c = (search circled_next, search is_scale_lem)

pub returns-in-Some : goal.returns-in-Some
returns-in-Some c = search found

pub loop-i-preserved : goal.loop-i-preserved
loop-i-preserved c = search onward

pub returns : goal.returns
returns c = search at_end
