-- `detector_degrees::try_offsets` meets its contract.
use Rattle.std.proofs.Common.{refl, ◌≡◌, ℕ, suc, ◌+◌, ◌-◌, ◌*◌, ◌<◌, ◌≤◌, Bool, true, false, List, Option, None, Some, arith}
use Rattle.reads.specs.Reads.{Reads, done}
use Rattle.reads.specs.RunsClauses.{Resumes}
use Rattle.reads.proofs.RunsLaws.{ran_done, resumes_step, resumes_end}
use Rattle.bit_matrix.specs.declared.Shape.{Shape}
use Rattle.bit_matrix.specs.declared.BitMatrix.{BitMatrix}
use Rattle.bit_matrix.specs.ImageClauses.{RanOn}
use Rattle.bit_matrix.proofs.ImageLaws.{kept_on, onto}
use Rattle.sines.specs.Sines.{angle_of}
use Rattle.sines.specs.declared.Angle.{Angle}
use Rattle.rxing_result_point.specs.declared.Point.{Point}
use Rattle.detector_colours.specs.Colours.{if_degree, test_degree}
use Rattle.detector_colours.specs.Looks.{look_offset}
use Rattle.detector_degrees.specs.Degrees.{degrees_from}
use Rattle.detector_degrees.proofs.try_offsets.Invariants.{Trying}
use Rattle.detector_degrees.proofs.try_offsets.Goals as goal

left : {i : ℕ} → i < 175 → 175 - i ≡ suc (175 - (i + 1))
left h = omega arith

module _ (center : Point) (offsets : List Point) where
  abbrev look : Shape → Angle → ℕ → Reads (Option Bool)
  look shape = look_offset shape center offsets

  module _ {image₀ image : BitMatrix} {i : ℕ} (trying : Trying image₀ (look image₀.shape) image i) where
    abbrev tried : Reads (Option ℕ)
    tried = degrees_from (look image₀.shape) 175 0

    at_end : 175 ≤ i → RanOn tried image₀ None image
    unfolding degrees_from
    at_end h =
        let none : 175 - i ≡ 0 = omega arith in
        record { kept = trying.kept; ran = resumes_end (ran_done _) (rw none at trying.resumes) }

    module _ (h : i < 175) {angle : Angle} (a : angle ≡ angle_of (i * 2)) {after : BitMatrix} where
      rest : {found : Option Bool} → RanOn (test_degree (look image.shape angle)) image found after → Resumes image₀.words.now
          (if_degree (done (Some (i * 2))) (degrees_from (look image₀.shape) (175 - (i + 1)) (i + 1)) (done None) found) after.marks.now
          tried image₀.marks.now
      unfolding degrees_from
      rest run = resumes_step _ (rw a at (onto (λ shape. test_degree (look shape angle)) trying.kept run)) (rw (left h) at trying.resumes)

      lost : RanOn (test_degree (look image.shape angle)) image None after → RanOn tried image₀ None after
      lost run = record { kept = kept_on trying.kept run.kept; ran = resumes_end (ran_done _) (rest run) }

      module _ {found : Bool} (run : RanOn (test_degree (look image.shape angle)) image (Some found) after) where
        right : found ≡ true → RanOn tried image₀ (Some (i * 2)) after
        right e = record { kept = kept_on trying.kept run.kept; ran = resumes_end (ran_done _) (rw e at (rest run)) }

        onward : found ≡ false → Trying image₀ (look image₀.shape) after (i + 1)
        onward e = record { kept = kept_on trying.kept run.kept; resumes = rw e at (rest run) }

pub returns-in-None : goal.returns-in-None
returns-in-None c = lost _ _ c.loop-i.invariant c.loop-i-test.true c.angle-angle.ensures c.in-None.ensures

pub returns-in-Some-true : goal.returns-in-Some-true
returns-in-Some-true c = right _ _ c.loop-i.invariant c.loop-i-test.true c.angle-angle.ensures c.in-Some-true.ensures c.in-Some-true.field-0-test

pub loop-i-preserved : goal.loop-i-preserved
loop-i-preserved c = onward _ _ c.loop-i.invariant c.loop-i-test.true c.angle-angle.ensures c.in-Some-false.ensures c.in-Some-false.field-0-test

pub returns : goal.returns
returns c = search at_end
