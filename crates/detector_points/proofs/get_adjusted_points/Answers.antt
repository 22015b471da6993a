-- `detector_points::get_adjusted_points` meets its contract: what the calls ensure, put together.
use Rattle.detector_points.proofs.Cells.{three_points}
use Rattle.std.proofs.Common.{◌≡◌, length, rules}
use Rattle.detector_points.proofs.get_adjusted_points.Goals as goal

pub returns : goal.returns
returns c =
    let three : length c.args.origin ≡ 3 = search rules in
    three_points c.args.boundary c.args.origin three
    c.adjust_point_alternate.ensures c.adjust_point_alternate-2.ensures c.adjust_point_alternate-3.ensures
