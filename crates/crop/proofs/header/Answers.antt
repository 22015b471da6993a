-- `crop::header` meets its contract: the sum of the bytes by their worth is the definition's.
use Rattle.std.specs.Prelude.{List, ℕ, ◌<◌, get_or}
use Rattle.std.proofs.Common.{arith, get_or-take, ap, ◌∙◌}
use Rattle.crop.specs.Crop.{header}
use Rattle.crop.proofs.header.Goals as goal

pub returns : goal.returns
unfolding header
returns c =
    let file = c.args.file.now in
    let chunk = c.in_ok-bytes.ensures.cases in
    let b = λ (i : ℕ) (h : i < 4). ap (λ (l : List ℕ). get_or l i 0) chunk.same ∙ get_or-take 4 file i 0 h in
    (chunk.enough, omega (arith, c.from_be_bytes.ensures, b 0 (omega arith), b 1 (omega arith), b 2 (omega arith), b 3 (omega arith)))
