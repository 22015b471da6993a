-- `detector_center::corrected_center` meets its contract: the walks' runs, one after the other.
use Rattle.std.proofs.Common.{◌≡◌, ap, ◌∙◌}
use Rattle.reads.proofs.RunsLaws.{ran_bind, ran_is}
use Rattle.bit_matrix.specs.declared.Shape.{Shape}
use Rattle.bit_matrix.specs.declared.BitMatrix.{BitMatrix}
use Rattle.bit_matrix.specs.ImageClauses.{RanOn}
use Rattle.bit_matrix.proofs.ImageLaws.{kept_on, onto}
use Rattle.rxing_result_point.specs.declared.Point.{Point}
use Rattle.rxing_result_point.specs.declared.PointU.{PointU}
use Rattle.rxing_result_point.specs.Points.{rounded}
use Rattle.detector_walks.specs.declared.Width.{Width}
use Rattle.detector_walks.specs.Walks.{find_width_at_degree}
use Rattle.detector_center.specs.Center.{find_center, corrected}
use Rattle.detector_center.proofs.corrected_center.Goals as goal

centered : {i₀ i₁ i₂ : BitMatrix} (center : PointU) {first second : Width} {p : Point} {r : PointU}
    → RanOn (find_width_at_degree i₀.shape center 7) i₀ first i₁ → RanOn (find_width_at_degree i₁.shape center 97) i₁ second i₂
    → r ≡ rounded p → p ≡ find_center first.left first.right second.left
    → RanOn (corrected i₀.shape center) i₀ r i₂
unfolding corrected
centered center one two e f =
    let next = onto (λ (shape : Shape). find_width_at_degree shape center 97) one.kept two in
    record { kept = kept_on one.kept two.kept; ran = ran_bind _ one.ran (ran_bind _ next (ran_is (e ∙ ap rounded f))) }

pub returns : goal.returns
returns c = search centered
