-- `find::find` meets its contract: what is written is what is printed of the input's start, and so of the input.
use Rattle.std.specs.Prelude.{Result, Ok, Err, MatchResult, ◌≡◌}
use Rattle.std.proofs.Common.{rules}
use Rattle.find.specs.declared.Failure.{Failure}
use Rattle.find.proofs.Written.{written}
use Rattle.find.proofs.find.Goals as goal

-- where a changed error is none, there was none
was_ok : {A E : Type 0} (F : Type 0) (r : Result A E) (n : A) → MatchResult r (λ x. ◌≡◌ {A = Result A F} (Ok n) (Ok x)) (λ e. ⊥) → r ≡ Ok n
was_ok F (Ok x) n same = cc
was_ok F (Err e) n none = absurd none

pub returns : goal.returns
returns g c =
    let read = was_ok Failure c.read_full.result c.in_ok-n.n c.in_ok-n.ensures.cases in
    let wrote = was_ok Failure c.write_all.result c.in_ok-map_err.field-0 c.in_ok-map_err.ensures.cases in
    let in_bounds = rw read at c.read_full.ensures.in_bounds in
    let bytes = rw read at c.read_full.ensures.bytes in
    let end = rw read at c.read_full.ensures.end in
    let text = rw wrote at c.write_all.ensures.bytes in
    written _ _ _ _ c.in_ok-n.n _ _ (search rules) in_bounds.0 bytes end c.put_lines-end.ensures.front text
