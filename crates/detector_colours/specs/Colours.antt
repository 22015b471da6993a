-- The test of a degree in `attempt_rotation_box` of detector.rs. The eighteen points are looked at one after another; one of the other colour ends the degree,
-- and one whose area passes the last column or row ends all degrees. Definitions only. Assumes nothing.
use Rattle.std.specs.Prelude.{ℕ, zero, suc, ◌+◌, ◌%◌, Bool, true, false, not, cond, ltb, eqb, Option, None, Some}
use Rattle.std.specs.Option.{option_map_or}
use Rattle.reads.specs.Reads.{Reads, done, ◌>>=◌}

-- group 0, the top left, is black, group 1, the top right, white, the others black, white, black
unfoldable pub right_colour : ℕ → Bool → Bool
right_colour k black = cond (ltb k 3) black (cond (ltb k 6) (not black) (cond (eqb (k % 3) 1) (not black) black))

-- by cases on a degree's answer: whether all points have their colour, or none where one is outside
abbrev pub if_degree : {B : Type 0} → B → B → B → Option Bool → B
if_degree found wrong outside (Some true) = found
if_degree found wrong outside (Some false) = wrong
if_degree found wrong outside None = outside

-- n points from point k on, by a program that looks at the area about a point
unfoldable pub points_from : (ℕ → Reads (Option Bool)) → ℕ → ℕ → Reads (Option Bool)
points_from look zero k = done (Some true)
points_from look (suc n) k = do
  sample ← look k
  option_map_or (λ black. cond (right_colour k black) (points_from look n (k + 1)) (done (Some false))) sample (done None)

unfoldable pub test_degree : (ℕ → Reads (Option Bool)) → Reads (Option Bool)
test_degree look = points_from look 18 0
