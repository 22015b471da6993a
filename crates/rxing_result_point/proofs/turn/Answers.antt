-- `rxing_result_point::turn` meets its contract: what the calls ensure, put together.
use Rattle.std.proofs.Common.{refl}
use Rattle.rxing_result_point.specs.Points.{turned}
use Rattle.rxing_result_point.proofs.turn.Goals as goal

pub returns : goal.returns
unfolding turned
returns c = rw (c.abs_f32.ensures, c.abs_f32-2.ensures, c.from-center.ensures, c.from-original.ensures) refl
