-- `step_exports::geometry::step_guess_barcode_size_general` meets its contract.
use Rattle.std.proofs.Common.{refl, rules}
use Rattle.step_exports.proofs.Guarding.{answer, guessed_words}
use Rattle.step_exports.proofs.geometry.step_guess_barcode_size_general.Goals as goal

pub returns : goal.returns
returns c = answer (search rules) (refl, search guessed_words)
