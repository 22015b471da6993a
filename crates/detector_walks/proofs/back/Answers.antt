-- `detector_walks::back` meets its contract.
use Rattle.std.proofs.Common.{ℕ, ◌-◌, ◌<◌, ◌≢◌, arith}
use Rattle.detector_walks.proofs.back.Invariants.{ends_at_0, onward, stops}
use Rattle.detector_walks.proofs.back.Goals as goal

fewer : {x : ℕ} → x ≢ 0 → x - 1 < x
fewer some = omega arith

pub returns-then-x-eq0 : goal.returns-then-x-eq0
returns-then-x-eq0 c = search ends_at_0

pub loop-ray-preserved : goal.loop-ray-preserved
loop-ray-preserved c = search onward

pub returns : goal.returns
returns c = search stops
