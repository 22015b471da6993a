-- `detector_colours::test_degree` meets its contract.
use Rattle.std.proofs.Common.{ℕ, suc, ◌+◌, ◌-◌, ◌≤◌, ◌<◌, ◌≡◌, Bool, true, false, List, Option, None, Some, arith, sym, ◌∙◌}
use Rattle.reads.specs.RunsClauses.{Ran}
use Rattle.reads.proofs.RunsLaws.{ran_done, resumes_start, resumes_step, resumes_then, resumes_else, resumes_end}
use Rattle.bit_matrix.specs.declared.Shape.{Shape}
use Rattle.bit_matrix.specs.declared.BitMatrix.{BitMatrix}
use Rattle.bit_matrix.specs.ImageClauses.{RanOn}
use Rattle.bit_matrix.proofs.ImageLaws.{kept_same, kept_on, onto}
use Rattle.sines.specs.declared.Angle.{Angle}
use Rattle.rxing_result_point.specs.declared.Point.{Point}
use Rattle.detector_colours.specs.Colours.{right_colour, points_from, test_degree}
use Rattle.detector_colours.specs.Looks.{look_offset}
use Rattle.detector_colours.proofs.test_degree.Invariants.{Testing}
use Rattle.detector_colours.proofs.test_degree.Goals as goal

begins : {first : BitMatrix} {center : Point} {offsets : List Point} {angle : Angle} → Testing first center offsets angle first 0
unfolding test_degree
begins = record { kept = kept_same; resumes = resumes_start }

module _ {first image : BitMatrix} {center : Point} {offsets : List Point} {angle : Angle} {k : ℕ} (testing : Testing first center offsets angle image k) where
  abbrev Result : Option Bool → BitMatrix → Type 0
  Result r after = RanOn (test_degree (look_offset first.shape center offsets angle)) first r after

  at_end : 18 ≤ k → Result (Some true) image
  unfolding points_from
  at_end h =
      let none : 18 - k ≡ 0 = omega arith in
      record { kept = testing.kept; ran = resumes_end (ran_done _) (rw none at testing.resumes) }

  module _ (h : k < 18) where
    left : 18 - k ≡ suc (18 - (k + 1))
    left = omega arith

    abbrev Look : Option Bool → BitMatrix → Type 0
    Look sample after = RanOn (look_offset image.shape center offsets angle k) image sample after

    looked : {sample : Option Bool} {after : BitMatrix} → Look sample after
        → Ran (look_offset first.shape center offsets angle k) first.words.now image.marks.now sample after.marks.now
    looked run = onto (λ (shape : Shape). look_offset shape center offsets angle k) testing.kept run

    lost : {after : BitMatrix} → Look None after → Result None after
    unfolding points_from
    lost run = record {
      kept = kept_on testing.kept run.kept;
      ran = resumes_end (ran_done _) (resumes_step _ (looked run) (rw left at testing.resumes));
    }

    module _ {black right : Bool} {after : BitMatrix} (run : Look (Some black) after) (colour : right ≡ right_colour k black) where
      wrong : right ≡ false → Result (Some false) after
      unfolding points_from
      wrong f = record {
        kept = kept_on testing.kept run.kept;
        ran = resumes_end (ran_done _) (resumes_else _ _ (sym colour ∙ f) (resumes_step _ (looked run) (rw left at testing.resumes)));
      }

      onward : right ≡ true → Testing first center offsets angle after (k + 1)
      unfolding points_from
      onward t = record {
        kept = kept_on testing.kept run.kept;
        resumes = resumes_then _ _ (sym colour ∙ t) (resumes_step _ (looked run) (rw left at testing.resumes));
      }

pub loop-k-init : goal.loop-k-init
loop-k-init c = begins

pub returns-in_err-black : goal.returns-in_err-black
returns-in_err-black c = rw c.from_residual.ensures (lost c.loop-k.invariant c.loop-k-test.true c.in_err-black.ensures)

pub returns-then-not-right_colour : goal.returns-then-not-right_colour
returns-then-not-right_colour c =
    wrong c.loop-k.invariant c.loop-k-test.true c.in_ok-black.ensures c.right_colour.ensures c.if-not-right_colour.true

pub loop-k-preserved : goal.loop-k-preserved
loop-k-preserved c =
    onward c.loop-k.invariant c.loop-k-test.true c.in_ok-black.ensures c.right_colour.ensures c.if-not-right_colour.false

pub returns : goal.returns
returns c = search at_end
