-- The source's test of the widths in f32, each operation rounded once; `SameWidthsLaws` proves it equal to the one in whole numbers. Assumes nothing.
use Rattle.std.specs.Prelude.{ℕ, Bool, ◌&&◌, List, Float}
use Rattle.std.specs.Float.{binary32}
use Rattle.std.specs.Float.Ieee.{sub, div, lt}
use Rattle.ieee.specs.Sign.{abs}
use Rattle.rxing_result_point.specs.Points.{real}
use Rattle.detector_widths.specs.Widths.{at, even_total, odd_total}

-- `estimated_module_size_even`, `estimated_module_size_odd`
abbrev pub module_size : ℕ → Float
module_size total = div binary32 (real total) (real 5)

-- whether a run lies nearer to the module size than half of it, `max_variance_even`, `max_variance_odd`
unfoldable pub passes_f32 : ℕ → ℕ → Bool
passes_f32 total b = lt (abs (sub binary32 (module_size total) (real b))) (div binary32 (module_size total) (real 2))

-- the ten tests, `b1` to `b11` without `b6`, in the source's order
unfoldable pub valid_widths_f32 : List ℕ → Bool
valid_widths_f32 runs =
    let even : ℕ → Bool = λ i. passes_f32 (even_total runs) (at runs i) in
    let odd : ℕ → Bool = λ i. passes_f32 (odd_total runs) (at runs i) in
    even 0 && odd 1 && even 2 && odd 3 && even 4 && even 6 && odd 7 && even 8 && odd 9 && even 10
