-- The ten tests of eleven runs in whole numbers are the source's in f32, for totals to 2 ^ 20. Assumes nothing.
use Rattle.std.specs.Prelude.{◌≡◌, refl, Bool, true, false, ◌&&◌, List, ℕ, ◌^◌, ◌≤◌}
use Rattle.std.proofs.Math.Bool.{and_assoc, and_comm}
use Rattle.std.proofs.Common.{arith}
use Rattle.detector_widths.specs.Widths.{at, even_total, odd_total, passes, even_runs_pass, odd_runs_pass, valid_widths}
use Rattle.detector_widths.specs.WidthsF32.{passes_f32, valid_widths_f32}
use Rattle.detector_widths.specs.SameTestLaws.{same_test}

and_left_comm : (a b c : Bool) → a && (b && c) ≡ b && (a && c)
and_left_comm true true c = refl
and_left_comm true false c = refl
and_left_comm false true c = refl
and_left_comm false false c = refl

-- the source's order of the tests, and the even ones first
even_first : (a b c d e f g h i j : Bool) → a && b && c && d && e && f && g && h && i && j ≡ a && c && e && f && h && j && (b && d && g && i)
even_first a b c d e f g h i j = simp (and_assoc, and_comm, and_left_comm)

pub same_widths : (runs : List ℕ) → even_total runs ≤ 2 ^ 20 → odd_total runs ≤ 2 ^ 20 → valid_widths_f32 runs ≡ valid_widths runs
unfolding valid_widths_f32 valid_widths even_runs_pass odd_runs_pass
same_widths runs evens odds =
    let same : (total : ℕ) → total ≤ 2 ^ 20 → (i : ℕ) → at runs i ≤ total
    → passes_f32 total (at runs i) ≡ passes total (at runs i) = λ total few i h. same_test total (at runs i) few (omega arith) in
    let even = same (even_total runs) evens in
    let odd = same (odd_total runs) odds in
    rw (
      even 0 (omega arith),
      odd 1 (omega arith),
      even 2 (omega arith),
      odd 3 (omega arith),
      even 4 (omega arith),
      even 6 (omega arith),
      odd 7 (omega arith),
      even 8 (omega arith),
      odd 9 (omega arith),
      even 10 (omega arith),
    )
    (even_first (passes (even_total runs) (at runs 0)) _ _ _ _ _ _ _ _ _)
