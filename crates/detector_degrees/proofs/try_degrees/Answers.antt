-- `detector_degrees::try_degrees` meets its contract: the run from the points' offsets is that of the definition, by `same_degrees`.
use Rattle.std.proofs.Common.{◌≡◌, ℕ, List, Option}
use Rattle.bit_matrix.specs.declared.BitMatrix.{BitMatrix}
use Rattle.bit_matrix.specs.ImageClauses.{RanOn}
use Rattle.rxing_result_point.specs.declared.Point.{Point}
use Rattle.rxing_result_point.specs.declared.PointU.{PointU}
use Rattle.rxing_result_point.specs.Points.{point_at}
use Rattle.detector_colours.specs.Looks.{look_offset}
use Rattle.detector_degrees.specs.Degrees.{point_of, degrees_from, try_degrees}
use Rattle.detector_degrees.specs.Offsets.{offset_past, EachPoint}
use Rattle.detector_degrees.proofs.Alike.{same_degrees}
use Rattle.detector_degrees.proofs.try_degrees.Goals as goal

tried : {image after : BitMatrix} {found : Option ℕ} (center : PointU) (groups : List (List PointU)) {middle : Point} {offsets : List Point}
    → middle ≡ point_at center → EachPoint (λ k. offset_past middle (point_of groups k)) offsets
    → RanOn (degrees_from (look_offset image.shape middle offsets) 175 0) image found after
    → RanOn (try_degrees image.shape center groups) image found after
tried {image} center groups e past run = rw (same_degrees image.shape center groups (rw e at past)) at (rw e at run)

pub returns : goal.returns
returns c = search tried
