-- `detector_kept::axis_of` meets its contract: its callees' equations, put together.
use Rattle.std.proofs.Common.{rules}
use Rattle.detector_kept.proofs.Columns.{sum_fits, axis_is}
use Rattle.detector_kept.proofs.axis_of.Goals as goal

pub total_of-requires : goal.total_of-requires
total_of-requires c = (search rules, search sum_fits)

pub returns : goal.returns
returns c = search axis_is
