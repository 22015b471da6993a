-- `detector_variances::variance_bits` meets its contract: its callees' equations, put together.
use Rattle.std.proofs.Common.{ap, ◌∙◌, arith, rules}
use Rattle.std.specs.Float.{binary32}
use Rattle.std.specs.Float.Ieee.{to_bits}
use Rattle.detector_variances.specs.Variances.{variance_bits}
use Rattle.detector_variances.specs.VariancesLaws.{short}
use Rattle.detector_variances.proofs.variance_bits.Goals as goal

pub calculate_circle_variance-variance-requires : goal.calculate_circle_variance-variance-requires
calculate_circle_variance-variance-requires c =
    let r = c.args.candidate.now in (short r 3 (search rules) (omega arith) c.requires, short r 14 (search rules) (omega arith) c.requires)

pub returns : goal.returns
unfolding variance_bits
returns c = c.f32_to_bits_with_nan.ensures ∙ ap (to_bits binary32) c.calculate_circle_variance-variance.ensures
