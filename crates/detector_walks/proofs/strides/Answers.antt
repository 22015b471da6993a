-- `detector_walks::strides` meets its contract.
use Rattle.std.proofs.Common.{rules}
use Rattle.detector_walks.proofs.Walking.{room_of, walk_begins, walk_enough, walk_fits, walk_stops, walk_onward, walk_fewer}
use Rattle.detector_walks.proofs.strides.Goals as goal

pub loop-image-init : goal.loop-image-init
loop-image-init g c = search (walk_begins, rules)

pub column-x-requires : goal.column-x-requires
column-x-requires g c = search (walk_enough, walk_fits, room_of, rules)

pub returns-then-taken-lt32 : goal.returns-then-taken-lt32
returns-then-taken-lt32 g c = search (walk_stops, room_of, rules)

pub loop-image-smaller : goal.loop-image-smaller
loop-image-smaller g c = search (walk_fewer, room_of, rules)

pub loop-image-preserved : goal.loop-image-preserved
loop-image-preserved g c = search (walk_onward, room_of, rules)
