-- `detector_colours::look` meets its contract: the area's run, at the turned point's pixel.
use Rattle.std.proofs.Common.{Option, Bool, ℕ, ◌≡◌}
use Rattle.std.specs.Float.Ieee.{add, sub, mul, to_unsigned}
use Rattle.std.specs.Float.{binary32}
use Rattle.ieee.specs.Sign.{abs}
use Rattle.bit_matrix.specs.declared.Shape.{Shape}
use Rattle.bit_matrix.specs.declared.BitMatrix.{BitMatrix}
use Rattle.bit_matrix.specs.ImageClauses.{RanOn}
use Rattle.bit_matrix_area.specs.Area.{try_get_area}
use Rattle.sines.specs.declared.Angle.{Angle}
use Rattle.rxing_result_point.specs.declared.Point.{Point}
use Rattle.detector_colours.specs.Looks.{look_past}
use Rattle.detector_colours.proofs.look.Goals as goal

looked : {image after : BitMatrix} {sample : Option Bool} (shape : Shape) (x y : ℕ) (center : Point) (angle : Angle) (offset : Point)
    → x ≡ to_unsigned 32 (abs (add binary32 (sub binary32 (mul binary32 angle.cos offset.x) (mul binary32 angle.sin offset.y)) center.x))
    → y ≡ to_unsigned 32 (abs (add binary32 (add binary32 (mul binary32 angle.sin offset.x) (mul binary32 angle.cos offset.y)) center.y))
    → RanOn (try_get_area shape x y) image sample after
    → RanOn (look_past shape center angle offset) image sample after
unfolding look_past
looked shape x y center angle offset e f ran = rw (e, f) at ran

pub returns : goal.returns
returns c = search looked
