-- `marks::count_marks` meets its contract: the number of one bits fits, since each word has at most 64.
use Rattle.std.proofs.Common.{rules, ℕ, ◌^◌, ◌<◌, ◌≤◌, List, length, sum_by, All, get_or, arith, Fits, w64}
use Rattle.std.specs.Int.Count.{ones}
use Rattle.std.proofs.iter.runs.Made.{chains}
use Rattle.std.proofs.lemmas.List.Elements.{All-from_get_or}
use Rattle.std.proofs.lemmas.List.Sums.{sum_by-le}
use Rattle.std.proofs.lemmas.Nat.{ones-le}
use Rattle.marks.proofs.count_marks.Goals as goal

few : (words : List ℕ) → length words < 2 ^ 26 → ((i : ℕ) → Fits w64 (get_or words i 0)) → sum_by ones words < 2 ^ 32
few words short fits =
    let each : All (λ w. ones w ≤ 64) words = All-from_get_or (λ w. ones w ≤ 64) words 0 (λ i _. ones-le 64 _ (fits i).fits) in
    omega (arith, sum_by-le ones 64 words each)

pub sum-requires-clause-fits : goal.sum-requires-clause-fits
sum-requires-clause-fits c =
    let fits = few c.args.marks.now c.requires c.type_inv.marks in
    search (rules, chains)
