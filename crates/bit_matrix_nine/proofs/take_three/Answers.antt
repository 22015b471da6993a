-- `bit_matrix_nine::take_three` meets its contract: three bits of one word, by shift and mask.
use Rattle.bit_matrix_nine.proofs.Taking.{taken_three}
use Rattle.bit_matrix_nine.proofs.take_three.Goals as goal

pub returns-clause-taken : goal.returns-clause-taken
returns-clause-taken c = search taken_three
