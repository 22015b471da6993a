-- `detector_search::search` meets its contract: its parts' contracts, put together, and the marks that the image leaves are those that it was lent.
use Rattle.std.specs.Prelude.{ℕ, List, ◌≡◌}
use Rattle.std.proofs.Common.{rules}
use Rattle.reads.specs.Reads.{Reads}
use Rattle.detector_verdict.specs.Verdict.{Numbers}
use Rattle.detector_search.specs.Search.{Result}
use Rattle.detector_search.specs.SearchClauses.{Sought}
use Rattle.detector_search.proofs.Searching.{judgeable, none_kept, boxable, some_kept}
use Rattle.detector_search.proofs.search.Goals as goal

left : {p : Reads Result} {capacity : ℕ} {words marks records : List ℕ} {r : Numbers} {m m' records' : List ℕ} → m' ≡ m
    → Sought p capacity words marks records r m records' → Sought p capacity words marks records r m' records'
left e sought = rw e sought

pub verdict-counts-requires : goal.verdict-counts-requires
verdict-counts-requires c = search judgeable

pub returns-then-kept-eq0 : goal.returns-then-kept-eq0
returns-then-kept-eq0 c =
    let swept = c.find_concentric_circles-found.ensures in
    left (search rules) (none_kept _ c.requires.0 c.requires.1 swept.listed c.verdict-counts.ensures c.if-kept-eq0.true)

pub box_kept-requires : goal.box_kept-requires
box_kept-requires c =
    let swept = c.find_concentric_circles-found.ensures in
    rw (swept.kept.shape, swept.kept.words)
    (boxable c.args.setting c.requires.0 c.requires.1 swept.listed c.verdict-counts.ensures (search rules) (search rules))

pub returns : goal.returns
returns c =
    let swept = c.find_concentric_circles-found.ensures in
    left (search rules)
    (some_kept _ c.requires.0 c.requires.1 swept.listed c.verdict-counts.ensures (search rules) (search rules)
    (rw (swept.kept.shape, swept.kept.words) at c.box_kept.ensures.boxed))
