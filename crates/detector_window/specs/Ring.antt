-- How the code keeps the runs of a window, by the columns where they start, in a ring of sixteen. Definitions only. Assumes nothing.
use Rattle.std.specs.Prelude.{ℕ, zero, suc, ◌+◌, ◌-◌, ◌%◌, Bool, false, cond, ◌&&◌, List, [], ◌∷◌, leb, ltb, eqb, get_or, set, Option, Some, None}
use Rattle.detector_widths.specs.Widths.{valid_widths}

-- n values of f, from i on
abbrev pub tab : (ℕ → ℕ) → ℕ → ℕ → List ℕ
tab f i zero = []
tab f i (suc n) = f i ∷ tab f (suc i) n

-- where run j starts: run k is the present one, and the one after it would start at `column`
unfoldable pub edge : List ℕ → ℕ → ℕ → ℕ → ℕ
edge ring k column j = cond (leb j k) (get_or ring (j % 16) 0) column

-- the length of the i-th of the last eleven runs
unfoldable pub count : List ℕ → ℕ → ℕ → ℕ → ℕ
count ring k column i = edge ring k column (k - 10 + i + 1) - edge ring k column (k - 10 + i)

-- the runs up to a column
abbrev pub buckets_of : List ℕ → ℕ → ℕ → List ℕ
buckets_of ring k column = tab (count ring k column) 0 11

-- black first, and then the colours take turns
abbrev pub colour : ℕ → Bool
colour k = eqb (k % 2) 0

-- whether the first pixel of the run after run k closes the window
unfoldable pub closing : List ℕ → ℕ → ℕ → Bool
closing ring k end = cond (ltb k 10) false (colour k && valid_widths (buckets_of ring k end))

-- the runs of the window that it closes, if it closes one
unfoldable pub closed_by : List ℕ → ℕ → ℕ → Option (List ℕ)
closed_by ring k end = cond (closing ring k end) (Some (buckets_of ring k end)) None

-- the next run starts at column e
abbrev pub started : List ℕ → ℕ → ℕ → List ℕ
started ring k e = set ring ((k + 1) % 16) e
