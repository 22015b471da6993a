-- `records::load` meets its contract: a copy of 40 words into an array.
use Rattle.std.specs.Prelude.{replicate}
use Rattle.records.specs.RecordsClauses.{get}
use Rattle.records.specs.CopiesLaws.{Copied}
use Rattle.records.proofs.load.Given as goal

abbrev pub invariant-loop-k : goal.invariant-loop-k
invariant-loop-k l = Copied 40 0 (replicate 40 0) (get l.records l.i) l.fields l.k
