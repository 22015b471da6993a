-- `records::front` meets its contract: chunks of 40 words are records.
use Rattle.std.proofs.Common.{ap, ◌∙◌, length}
use Rattle.records.specs.RecordsLaws.{length_rows}
use Rattle.records.proofs.Parts.{front_rows}
use Rattle.records.proofs.front.Goals as goal

pub returns : goal.returns
returns c =
    let are = c.as_chunks.ensures.front ∙ front_rows _ _ c.requires in
    (are, ap length are ∙ length_rows _ _)
