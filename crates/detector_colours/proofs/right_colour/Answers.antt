-- `detector_colours::right_colour` meets its contract: one test that passes for all points and both colours, computed.
use Rattle.std.proofs.Common.{ℕ, ◌/◌, ◌^◌, ◌<◌, Bool, true, false, not, ◌≡◌, bit_and, eqb}
use Rattle.std.proofs.Math.Bool.{beq}
use Rattle.reads.specs.EveryLaws.{every_at, same_truth}
use Rattle.detector_colours.specs.Colours.{right_colour}
use Rattle.detector_colours.proofs.right_colour.Goals as goal

abbrev answer : ℕ → Bool → Bool
answer k black = beq black (not (eqb (bit_and (0b101_101_101_101_000_111 / 2 ^ k) 1) 0))

answered : (k : ℕ) (black : Bool) → k < 18 → answer k black ≡ right_colour k black
unfolding right_colour
answered k true h = same_truth _ _ (every_at (λ (i : ℕ). beq (answer i true) (right_colour i true)) 18 tt k h)
answered k false h = same_truth _ _ (every_at (λ (i : ℕ). beq (answer i false) (right_colour i false)) 18 tt k h)

pub returns : goal.returns
returns c = search answered
