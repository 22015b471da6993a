-- `detector_center::find_center` meets its contract: what the two calls ensure. The literal 2.0, which the code has by its pattern, is `real 2` once both are
-- unfolded.
use Rattle.std.proofs.Common.{◌≡◌, ap, ◌∙◌, Float}
use Rattle.std.specs.Float.Ieee.{of_bits, of_int}
use Rattle.rxing_result_point.specs.declared.Point.{Point}
use Rattle.detector_center.specs.Center.{find_center}
use Rattle.detector_center.proofs.find_center.Goals as goal

abbrev point : Float → Float → Point
point x y = record { x = x; y = y }

same_point : {x y u v : Float} → x ≡ u → y ≡ v → point x y ≡ point u v
same_point {y} {u} p q = ap (λ (a : Float). point a y) p ∙ ap (point u) q

pub returns : goal.returns
unfolding find_center of_bits of_int
returns c = same_point c.abs_f32.ensures c.abs_f32-2.ensures
