-- `detector_ellipse::detect_ellipse` meets its contract: the walks' run, whose lengths are short from a centre between black pixels.
use Rattle.std.proofs.Common.{◌<◌, List}
use Rattle.reads.specs.Bits.{bit_at}
use Rattle.reads.proofs.RunsLaws.{on_ran}
use Rattle.bit_matrix.specs.declared.BitMatrix.{BitMatrix}
use Rattle.bit_matrix.specs.ShapeClauses.{Inside}
use Rattle.bit_matrix.specs.FlankedClauses.{Flanked}
use Rattle.bit_matrix.specs.ImageClauses.{RanOn}
use Rattle.bit_matrix.proofs.ImageLaws.{on_bind, on_is}
use Rattle.rxing_result_point.specs.declared.PointU.{PointU}
use Rattle.detector_walks.specs.declared.Width.{Width}
use Rattle.detector_ellipse.specs.Ellipse.{widths_about, longest, detect_ellipse}
use Rattle.detector_ellipse.specs.EllipseLaws.{short_widths}
use Rattle.detector_ellipse.proofs.detect_ellipse.Goals as goal

short : {image after : BitMatrix} (center : PointU) {widths : List Width} → RanOn (widths_about image.shape center) image widths after
    → Inside image.shape center.x center.y → Flanked image.shape (bit_at image.words.now) center.x center.y → longest widths < 50000
short {image} center run inside flanked =
    on_ran {P = λ (ws : List Width). longest ws < 50000} (short_widths image.is_image.limits center inside image.words.now flanked) run.ran

pub is_ellipse-requires : goal.is_ellipse-requires
is_ellipse-requires c = search short

pub returns : goal.returns
unfolding detect_ellipse
returns c = search (on_bind, on_is)
