-- `calculate_circle_variance` of detector.rs in f32 (docs/MANUAL.md, "How a search decides"). Every `add`, `sub`, `mul` and `div` rounds, and a sum
-- starts at run 0. Definitions only. Assumes nothing.
use Rattle.std.specs.Prelude.{ℕ, zero, suc, ◌+◌, ◌*◌, ◌/◌, Bool, cond, List, [], ◌∷◌, ◌==◌, from_bits, slice_index, Float}
use Rattle.std.specs.Float.{binary32}
use Rattle.std.specs.Float.Ieee.{add, sub, mul, div}
use Rattle.ieee.specs.Sign.{abs}
use Rattle.rxing_result_point.specs.Points.{real}

-- t is a list of ones and zeros: whether a sum takes the run at an index
abbrev pub takes : List ℕ → ℕ → Bool
takes t i = slice_index t i == 1

abbrev pub evens : List ℕ
evens = 1 ∷ 0 ∷ 1 ∷ 0 ∷ 1 ∷ 0 ∷ 1 ∷ 0 ∷ 1 ∷ 0 ∷ 1 ∷ []

-- of the odd runs, all but the middle one: what the odd module size is made of
abbrev pub odds : List ℕ
odds = 0 ∷ 1 ∷ 0 ∷ 1 ∷ 0 ∷ 0 ∷ 0 ∷ 1 ∷ 0 ∷ 1 ∷ 0 ∷ []

-- every run but the first and the middle one, even ones too: what is held against the odd module size
abbrev pub others : List ℕ
others = 0 ∷ 1 ∷ 1 ∷ 1 ∷ 1 ∷ 0 ∷ 1 ∷ 1 ∷ 1 ∷ 1 ∷ 1 ∷ []

-- of the first i row runs h and column runs v, the sum of those that t takes
unfoldable pub width_to : List ℕ → List ℕ → List ℕ → ℕ → ℕ
width_to t h v zero = 0
width_to t h v (suc i) = let w = width_to t h v i in cond (takes t i) (w + (slice_index h i + slice_index v i)) w

-- `estimated_module_size_even` and `_odd`: a tenth of the width that t takes
unfoldable pub tenth_of_width : List ℕ → List ℕ → List ℕ → Float
tenth_of_width t h v = div binary32 (real (width_to t h v 11)) (from_bits binary32 0x4120_0000)

-- acc, and how far the run n is from `expected`
unfoldable pub further : Float → Float → ℕ → Float
further expected acc n = add binary32 acc (abs (sub binary32 expected (real n)))

-- `total_variance_even` and `_odd`, over those of the first i row runs that t takes
unfoldable pub variance_to : List ℕ → List ℕ → Float → ℕ → Float
variance_to t h expected zero = from_bits binary32 0
variance_to t h expected (suc i) = let d = variance_to t h expected i in cond (takes t i) (further expected d (slice_index h i)) d

-- the area of a circle whose radius is half the run n, rounded down
unfoldable pub expected_area : ℕ → Float
expected_area n = mul binary32 (real (n / 2 * (n / 2))) (from_bits binary32 0x4049_0fdb)

-- `circle_area_variance`: how far two areas are from their mean
unfoldable pub area_variance : Float → Float → Float
area_variance horizontal vertical =
    let mean = div binary32 (add binary32 horizontal vertical) (from_bits binary32 0x4000_0000) in
    add binary32 (abs (sub binary32 horizontal mean)) (abs (sub binary32 vertical mean))

-- the variance of row runs h and column runs v
unfoldable pub circle_variance : List ℕ → List ℕ → Float
circle_variance h v =
    let even = variance_to evens h (tenth_of_width evens h v) 11 in
    let odd = variance_to others h (tenth_of_width odds h v) 11 in
    let circle = area_variance (expected_area (slice_index v 5)) (expected_area (slice_index h 5)) in
    div binary32 (add binary32 (add binary32 even odd) circle) (from_bits binary32 0x4040_0000)
