-- `records::store` meets its contract: a copy of 40 words.
use Rattle.std.proofs.Common.{rules}
use Rattle.records.specs.RecordsClauses.{put}
use Rattle.records.specs.CopiesLaws.{begins, onward, over}
use Rattle.records.proofs.store.Goals as goal

pub loop-k-init : goal.loop-k-init
loop-k-init c = search (begins, rules)

pub loop-k-preserved : goal.loop-k-preserved
loop-k-preserved c = search (onward, rules)

pub returns : goal.returns
unfolding put
returns c = search over
