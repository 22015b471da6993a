-- `Sines::cosine` meets its contract: 90 added to a degree that is cut to a turn is the same degree as 90 added to it whole.
use Rattle.std.proofs.Common.{◌∙◌}
use Rattle.sines.proofs.Laws.{sine_mod_add}
use Rattle.sines.proofs.Sines.cosine.Goals as goal

pub returns : goal.returns
returns c = c.sine.ensures ∙ sine_mod_add c.args.degree 90
