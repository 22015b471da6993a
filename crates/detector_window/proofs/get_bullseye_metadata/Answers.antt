-- `detector_window::get_bullseye_metadata` meets its contract: the sum is the definition's.
use Rattle.std.proofs.Common.{List, ℕ, ◌≡◌, refl, sum, ◌<◌, ◌^◌, arith, rules}
use Rattle.std.proofs.lemmas.List.Recursion.{is_sum_by}
use Rattle.reads.specs.Total.{total}
use Rattle.detector_window.specs.Window.{metadata}
use Rattle.detector_window.proofs.get_bullseye_metadata.Goals as goal

total_sum : (xs : List ℕ) → total xs ≡ sum xs
unfolding total
total_sum = is_sum_by total (λ x. x) refl (λ _ _. refl)

pub sum-requires-clause-fits : goal.sum-requires-clause-fits
sum-requires-clause-fits c =
    let fits : sum c.args.buckets < 2 ^ 32 = omega (arith, total_sum c.args.buckets) in
    search rules

pub overflow_add-radius : goal.overflow_add-radius
overflow_add-radius c =
    let same : c.sum.result ≡ sum c.args.buckets = search rules in
    omega (arith, total_sum c.args.buckets)

pub overflow_sub-result : goal.overflow_sub-result
overflow_sub-result c =
    let same : c.sum.result ≡ sum c.args.buckets = search rules in
    omega (arith, total_sum c.args.buckets)

pub returns : goal.returns
unfolding metadata
returns c =
    let same : c.sum.result ≡ sum c.args.buckets = search rules in
    rw (total_sum c.args.buckets, ← same)
