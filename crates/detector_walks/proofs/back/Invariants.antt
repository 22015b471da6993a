-- `detector_walks::back` meets its contract. The invariant is `Walking`: from the present column, what is left of the definition ends as the whole does.
-- The measure is the column.
use Rattle.std.proofs.Common.{ℕ, suc, ◌-◌, ◌^◌, ◌≤◌, Bool, true, false, cond, ◌≢◌, ◌≡◌, arith}
use Rattle.std.proofs.Math.Decide.{ℕ_discrete}
use Rattle.reads.specs.Reads.{Reads, done}
use Rattle.reads.specs.RunsClauses.{Ran, Resumes}
use Rattle.reads.proofs.RunsLaws.{ran_done, ran_is, resumes_start, resumes_step, resumes_then, resumes_else, resumes_end}
use Rattle.bit_matrix.specs.declared.Shape.{Shape}
use Rattle.bit_matrix.specs.declared.BitMatrix.{BitMatrix}
use Rattle.bit_matrix.specs.ImageClauses.{Kept, RanOn}
use Rattle.bit_matrix.proofs.ImageLaws.{kept_same, kept_on, onto}
use Rattle.sines.specs.declared.Angle.{Angle}
use Rattle.rxing_result_point.specs.declared.PointU.{PointU}
use Rattle.detector_walks.specs.Walks.{walk_point, white_point, left_from}
use Rattle.detector_walks.proofs.back.Given as goal

module _ (image : BitMatrix) (center : PointU) (angle : Angle) (first : ℕ) where
  abbrev rest : ℕ → Reads ℕ
  rest = left_from image.shape center angle

  pub record Walking (now : BitMatrix) (x : ℕ) : Type 0 where
    pub kept : Kept image now
    pub low : x ≤ 2 ^ 21
    pub resumes : Resumes image.words.now (rest x) now.marks.now (rest first) image.marks.now

  pub begins : first ≤ 2 ^ 21 → Walking image first
  begins low = record { kept = kept_same; low = low; resumes = resumes_start }

  module _ {now : BitMatrix} {x : ℕ} {white : Bool} {after : BitMatrix} (walking : Walking now x)
      (run : RanOn (white_point now.shape (walk_point center angle x)) now white after) where
    ran : Ran (white_point image.shape (walk_point center angle x)) image.words.now now.marks.now white after.marks.now
    ran = onto (λ (shape : Shape). white_point shape (walk_point center angle x)) walking.kept run

    pub ends_at_0 : x ≡ 0 → RanOn (rest first) image x after
    unfolding left_from
    ends_at_0 none = record {
      kept = kept_on walking.kept run.kept;
      ran = resumes_end (ran_is none) (resumes_step _ (rw none at ran) (rw none at walking.resumes));
    }

    step : x ≢ 0 → Resumes image.words.now (cond white (rest (x - 1)) (done x)) after.marks.now (rest first) image.marks.now
    unfolding left_from
    step some =
        let back : x ≡ suc (x - 1) = omega arith in
        rw (← back) at (resumes_step _ (rw back at ran) (rw back at walking.resumes))

    pub stops : white ≡ false → RanOn (rest first) image x after
    stops e = go (ℕ_discrete x 0)
      where
        go : Dec (x ≡ 0) → RanOn (rest first) image x after
        go (yes none) = ends_at_0 none
        go (no some) = record { kept = kept_on walking.kept run.kept; ran = resumes_end (ran_done x) (resumes_else _ _ e (step some)) }

    pub onward : x ≢ 0 → white ≡ true → Walking after (x - 1)
    onward some e = record { kept = kept_on walking.kept run.kept; low = omega (arith, walking.low); resumes = resumes_then _ _ e (step some) }

abbrev pub invariant-loop-ray : goal.invariant-loop-ray
invariant-loop-ray l = Walking l.initial.image l.ray.center l.ray.angle l.first l.image l.x

abbrev pub decreases-loop-ray : goal.decreases-loop-ray
decreases-loop-ray l = l.x
