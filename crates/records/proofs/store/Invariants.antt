-- `records::store` meets its contract: a copy of 40 words.
use Rattle.std.specs.Prelude.{◌*◌}
use Rattle.records.specs.CopiesLaws.{Copied}
use Rattle.records.proofs.store.Given as goal

abbrev pub invariant-loop-k : goal.invariant-loop-k
invariant-loop-k l = Copied 40 (40 * l.i) l.initial.records l.fields l.records l.k
