-- `text::Text::put` meets its contract: the piece lies over the part behind the text.
use Rattle.std.proofs.Common.{refl, rules}
use Rattle.text.proofs.Copied.{puts_copied}
use Rattle.text.proofs.Text.put.Goals as goal

pub returns-clause-text : goal.returns-clause-text
returns-clause-text c =
    let before = c.args.self.now in
    record { puts = puts_copied before.len _ before.buf.now _ _ refl c.requires c.copy_from_slice.ensures.after (search rules); same = refl }
