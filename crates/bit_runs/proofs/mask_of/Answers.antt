-- `bit_runs::mask_of` meets its contract, by the mask that its shifts make.
use Rattle.std.proofs.Common.{◌^◌, ◌≤◌, arith, rules, pow_mono}
use Rattle.bit_runs.proofs.WordLaws.{ones_below, one_at, mask_is}
use Rattle.bit_runs.proofs.mask_of.Goals as goal

pub overflow_sub-result-3 : goal.overflow_sub-result-3
overflow_sub-result-3 c =
    let low : 2 ^ c.args.place ≤ 2 ^ c.args.end = pow_mono (omega arith) in
    rw (ones_below c.args.end (omega arith), one_at c.args.place (omega arith)) (omega arith)

pub returns : goal.returns
returns c = search (mask_is, rules)
