-- `detector_widths::validate_bullseye_widths` meets its contract: what the calls ensure, put together.
use Rattle.std.proofs.Common.{Bool, sym, ap, ◌∙◌, ◌&&◌}
use Rattle.detector_widths.specs.Widths.{odd_runs_pass, valid_widths}
use Rattle.detector_widths.proofs.Runs.{even_runs, odd_runs}
use Rattle.detector_widths.proofs.validate_bullseye_widths.Goals as goal

pub returns-then-runs_pass : goal.returns-then-runs_pass
unfolding valid_widths
returns-then-runs_pass c =
    let xs = c.args.buckets.now in
    c.runs_pass-then-runs_pass.ensures ∙ odd_runs xs c.total-then-runs_pass.result c.total-then-runs_pass.ensures.0
    ∙ ap (λ (b : Bool). b && odd_runs_pass xs) (sym c.if-runs_pass.true ∙ c.runs_pass.ensures ∙ even_runs xs c.total.result c.total.ensures.0)

pub returns-else-runs_pass : goal.returns-else-runs_pass
unfolding valid_widths
returns-else-runs_pass c =
    let xs = c.args.buckets.now in
    c.if-runs_pass.false
    ∙ ap (λ (b : Bool). b && odd_runs_pass xs) (sym c.if-runs_pass.false ∙ c.runs_pass.ensures ∙ even_runs xs c.total.result c.total.ensures.0)
