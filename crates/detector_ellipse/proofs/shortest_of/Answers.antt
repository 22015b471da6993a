-- `detector_ellipse::shortest_of` meets its contract: the fold from the longest is the shortest.
use Rattle.std.proofs.Common.{◌≡◌, ℕ, min, List, [], ◌∷◌, fold, refl, ◌∙◌, arith, rules}
use Rattle.detector_walks.specs.declared.Width.{Width}
use Rattle.detector_ellipse.specs.Ellipse.{shortest}
use Rattle.detector_ellipse.proofs.shortest_of.Goals as goal

-- a length may be taken first
least_first : (n l : ℕ) (ws : List Width) → shortest (min n l) ws ≡ min l (shortest n ws)
unfolding shortest
least_first n l [] = omega arith
least_first n l (w ∷ ws) = omega (arith, least_first n l ws)

folded : (n : ℕ) (ws : List Width) → fold (λ (least : ℕ) (w : Width). min least w.length) n ws ≡ shortest n ws
unfolding shortest
folded n [] = refl
folded n (w ∷ ws) = folded (min n w.length) ws ∙ least_first n w.length ws

shortest_is : (n : ℕ) (ws : List Width) {r : ℕ} → r ≡ fold (λ (least : ℕ) (w : Width). min least w.length) n ws → r ≡ shortest n ws
shortest_is n ws e = e ∙ folded n ws

pub returns : goal.returns
returns c = search (shortest_is, rules)
