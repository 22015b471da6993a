-- `detector_cells::read_rows` meets its contract.
use Rattle.std.proofs.Common.{ℕ, ◌+◌, ◌<◌, arith, List, ◌≡◌, refl, ap, ◌∙◌, length, set, length-set}
use Rattle.crop_padding.specs.Below.{firsts}
use Rattle.crop_rows.specs.FirstsLaws.{firsts_none, firsts_more, firsts_all}
use Rattle.detector_cells.proofs.read_rows.Invariants.{Storing}
use Rattle.detector_cells.proofs.read_rows.Goals as goal

module _ (f : ℕ → ℕ) (cells₀ : List ℕ) where
  begins : Storing f cells₀ cells₀ 0
  begins = record { stored = firsts_none f cells₀; sized = refl }

  module _ (long : length cells₀ ≡ 33) {cells : List ℕ} {y : ℕ} (storing : Storing f cells₀ cells y) where
    onward : {v : ℕ} → y < 33 → v ≡ f y → Storing f cells₀ (set cells y v) (y + 1)
    onward {v} here is = record {
      stored = ap (λ (l : List ℕ). set l y v) storing.stored ∙ firsts_more f cells₀ y (omega (arith, long)) is;
      sized = simp length-set storing.sized;
    }

    at_end : y ≡ 33 → cells ≡ firsts f 33
    at_end all =
        storing.stored ∙ firsts_all f cells₀ {n = y} (omega (arith, long)) ∙ ap (firsts f) all

pub loop-y-init : goal.loop-y-init
loop-y-init c = search begins

pub loop-y-preserved : goal.loop-y-preserved
loop-y-preserved c = onward _ c.args.cells.now c.requires.1 c.loop-y.invariant (omega arith) c.read_row.ensures

pub returns : goal.returns
returns c = at_end _ c.args.cells.now c.requires.1 c.loop-y.invariant (omega arith)
