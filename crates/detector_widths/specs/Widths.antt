-- `validate_bullseye_widths` of eleven runs: the test in whole numbers (docs/MANUAL.md, "How a search decides"). `specs/SameWidthsLaws.antt` proves that
-- the source's test in f32 is the same. Definitions only. Assumes nothing.
use Rattle.std.specs.Prelude.{ℕ, ◌+◌, ◌*◌, Bool, ◌&&◌, List, ltb, get_or}

-- run i
abbrev pub at : List ℕ → ℕ → ℕ
at runs i = get_or runs i 0

-- the sums of the even and of the odd runs, the source's `total_width_even` and `total_width_odd`. Run 5 is in neither.
abbrev pub even_total : List ℕ → ℕ
even_total runs = at runs 0 + at runs 2 + at runs 4 + at runs 6 + at runs 8 + at runs 10

abbrev pub odd_total : List ℕ → ℕ
odd_total runs = at runs 1 + at runs 3 + at runs 7 + at runs 9

-- whether a run b passes, by the total of its kind
abbrev pub passes : ℕ → ℕ → Bool
passes total b = ltb total (10 * b) && ltb (10 * b) (3 * total)

unfoldable pub even_runs_pass : List ℕ → Bool
even_runs_pass runs =
    let pass : ℕ → Bool = λ i. passes (even_total runs) (at runs i) in
    pass 0 && pass 2 && pass 4 && pass 6 && pass 8 && pass 10

-- run 5 is free
unfoldable pub odd_runs_pass : List ℕ → Bool
odd_runs_pass runs =
    let pass : ℕ → Bool = λ i. passes (odd_total runs) (at runs i) in
    pass 1 && pass 3 && pass 7 && pass 9

unfoldable pub valid_widths : List ℕ → Bool
valid_widths runs = even_runs_pass runs && odd_runs_pass runs
