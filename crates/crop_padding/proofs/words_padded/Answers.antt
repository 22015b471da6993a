-- `crop_padding::words_padded` meets its contract.
use Rattle.std.specs.Prelude.{refl}
use Rattle.std.proofs.Common.{rules, tests, ◌∙◌}
use Rattle.std.proofs.lemmas.Iterator.{YieldsList-from_range}
use Rattle.std.proofs.lemmas.Iterator.Search.{any_from_yields_List}
use Rattle.crop_padding.specs.Padding.{words_row}
use Rattle.crop_padding.proofs.Padding.{any_is}
use Rattle.crop_padding.proofs.words_padded.Goals as goal

pub returns : goal.returns
returns c =
    let p = words_row c.args.image.now.words.now c.args.image.now.shape.width in
    any_from_yields_List p _ _ _ c.any.ensures.ran (YieldsList-from_range 0 c.args.image.now.shape.height c.args.image.now.shape.height refl (search rules)) (λ x b q k. search (rules, tests))
    ∙ any_is p c.args.image.now.shape.height
