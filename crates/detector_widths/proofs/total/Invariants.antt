-- `detector_widths::total` meets its contract.
use Rattle.std.proofs.Common.{◌≡◌, ◌*◌, ◌^◌, ◌≤◌, take, sum}
use Rattle.detector_widths.proofs.total.Given as goal

abbrev pub invariant-loop-run : goal.invariant-loop-run
invariant-loop-run g l = record { so_far : l.total ≡ sum (take l.run-index l.runs); small : l.total ≤ l.run-index * 2 ^ 32 }
