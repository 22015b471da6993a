-- `detector_ellipse::Ellipse::good_points_of` meets its contract: the good points of the widths before the present one are counted, two at most of each.
use Rattle.std.proofs.Common.{◌≡◌, ◌*◌, ◌≤◌, take}
use Rattle.detector_ellipse.specs.Ellipse.{good_points}
use Rattle.detector_ellipse.proofs.Ellipse.good_points_of.Given as goal

abbrev pub invariant-loop-width : goal.invariant-loop-width
invariant-loop-width l = record {
  counted : l.good ≡ good_points l.self.center l.self.semi_major_axis l.self.semi_minor_axis (take l.width-index l.widths);
  few : l.good ≤ 2 * l.width-index;
}
