-- `replay::replay` is safe and ends: each vector has 64 bytes or more, and the counts stay below the bytes passed.
use Rattle.std.proofs.Common.{◌+◌, ◌≤◌, length}
use Rattle.replay.proofs.replay.Given as goal

abbrev pub invariant-loop-rest : goal.invariant-loop-rest
invariant-loop-rest g l = record { vectors_few : l.vectors + length l.rest ≤ length l.pack; wrong_few : l.wrong ≤ l.vectors }

abbrev pub decreases-loop-rest : goal.decreases-loop-rest
decreases-loop-rest g l = length l.rest
