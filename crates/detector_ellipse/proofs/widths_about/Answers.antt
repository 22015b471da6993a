-- `detector_ellipse::widths_about` meets its contract.
use Rattle.std.proofs.Common.{◌≡◌, ℕ, suc, ◌+◌, ◌-◌, ◌*◌, ◌<◌, ◌≤◌, List, [], ◌∷◌, ◌++◌, length, take, set, ap, ◌∙◌, add-one, arith, length-set, take_all, take-suc-set, rules}
use Rattle.reads.proofs.RunsLaws.{ran_done, resumes_start, resumes_step, resumes_end}
use Rattle.bit_matrix.specs.declared.Shape.{Shape}
use Rattle.bit_matrix.specs.declared.BitMatrix.{BitMatrix}
use Rattle.bit_matrix.specs.ImageClauses.{RanOn}
use Rattle.bit_matrix.proofs.ImageLaws.{kept_same, kept_on, onto}
use Rattle.rxing_result_point.specs.declared.PointU.{PointU}
use Rattle.detector_walks.specs.declared.Width.{Width}
use Rattle.detector_walks.specs.Walks.{find_width_at_degree}
use Rattle.detector_ellipse.specs.Ellipse.{widths_from, widths_about}
use Rattle.detector_ellipse.proofs.widths_about.Invariants.{Walking}
use Rattle.detector_ellipse.proofs.widths_about.Goals as goal

begins : {first : BitMatrix} {center : PointU} (widths : List Width) → length widths ≡ 72 → Walking first center first widths 0
unfolding widths_about
begins widths all = record { all = all; kept = kept_same; resumes = resumes_start }

module _ {first image : BitMatrix} {center : PointU} {widths : List Width} {i : ℕ} (walking : Walking first center image widths i) where
  onward : {w : Width} {after : BitMatrix} → i < 72 → RanOn (find_width_at_degree image.shape center (5 * i)) image w after
      → Walking first center after (set widths i w) (i + 1)
  unfolding widths_from
  onward {w} h run =
      let one : 72 - i ≡ suc (72 - (i + 1)) = omega arith in
      let front : take (i + 1) (set widths i w) ≡ take i widths ++ w ∷ [] =
      ap (λ (k : ℕ). take k (set widths i w)) (add-one i) ∙ take-suc-set widths i w (omega (arith, walking.all)) in
      let ran = onto (λ (shape : Shape). find_width_at_degree shape center (5 * i)) walking.kept run in
      record {
        all = length-set widths i w ∙ walking.all;
        kept = kept_on walking.kept run.kept;
        resumes = rw front (resumes_step _ ran (rw one at walking.resumes));
      }

  over : 72 ≤ i → i ≤ 72 → RanOn (widths_about first.shape center) first widths image
  unfolding widths_from
  over low high =
      let none : 72 - i ≡ 0 = omega arith in
      let whole : take i widths ≡ widths = take_all i widths (omega (arith, walking.all)) in
      record { kept = walking.kept; ran = resumes_end (ran_done widths) (rw (none, whole) at walking.resumes) }

pub loop-i-init : goal.loop-i-init
loop-i-init c = search (begins, rules)

pub loop-i-preserved : goal.loop-i-preserved
loop-i-preserved c = search (onward, rules)

pub returns : goal.returns
returns c = search (over, rules)
