-- `detector_ellipse::longest_of` meets its contract: the fold from 0 is the longest.
use Rattle.std.proofs.Common.{◌≡◌, ℕ, max, List, [], ◌∷◌, fold, ◌∙◌, Option, unwrap_or, ap, arith, rules, tests}
use Rattle.std.proofs.lemmas.Iterator.{YieldsList-from_slice, YieldsList-from_map}
use Rattle.std.proofs.lemmas.Iterator.Consumers.{reduce_from_yields_List}
use Rattle.std.proofs.lemmas.List.Folds.{max_of_map}
use Rattle.detector_walks.specs.declared.Width.{Width}
use Rattle.detector_ellipse.specs.Ellipse.{longest}
use Rattle.detector_ellipse.proofs.longest_of.Goals as goal

folded : (n : ℕ) (ws : List Width) → fold (λ (most : ℕ) (w : Width). max most w.length) n ws ≡ max n (longest ws)
unfolding longest
folded n [] = omega arith
folded n (w ∷ ws) = omega (arith, folded (max n w.length) ws)

longest_is : (ws : List Width) → fold (λ (most : ℕ) (w : Width). max most w.length) 0 ws ≡ longest ws
longest_is ws = omega (arith, folded 0 ws)

pub returns : goal.returns
returns c =
    let ws = c.args.widths.now in
    c.unwrap_or.ensures
    ∙ ap (λ (o : Option ℕ). unwrap_or o 0) (reduce_from_yields_List _ c.map.result _ c.max.ensures.ran
    (YieldsList-from_map _ (λ (w : Width). w.length) (YieldsList-from_slice ws cc) c.map.ensures.closure (λ x b q k. search (rules, tests))))
    ∙ max_of_map (λ (w : Width). w.length) ws
    ∙ longest_is ws
