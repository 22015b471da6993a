-- `detector_size::guess_barcode_size_general` meets its contract: its callees' equations, put together.
use Rattle.std.proofs.Common.{ℕ, ◌≤◌, mul-le-mul, arith, ◌≡◌, ◌∙◌, ap, Float}
use Rattle.std.specs.Float.Ieee.{mul, to_unsigned}
use Rattle.std.specs.Float.{binary64}
use Rattle.ieee.specs.Integral.{floor}
use Rattle.detector_size.specs.declared.Size.{Size}
use Rattle.detector_size.specs.Size.{ideal_side, guessed_size}
use Rattle.detector_size.proofs.guess_barcode_size_general.Goals as goal

same_size : {w h w' h' : ℕ} → w ≡ w' → h ≡ h' → ◌≡◌ {A = Size} (record { width = w; height = h }) (record { width = w'; height = h' })
same_size p q = cc

pub overflow_mul-circle_area : goal.overflow_mul-circle_area
overflow_mul-circle_area c =
    let small : c.args.radius ≤ 65535 = omega arith in
    omega (arith, mul-le-mul small small)

pub returns : goal.returns
unfolding ideal_side guessed_size
returns c =
    let side = c.sqrt_f64-ideal_symbol_side.ensures in
    let last = c.args.height_final_adjust_percent in
    same_size
    (c.floor_f64_to_u32.ensures ∙ ap (λ (x : Float). to_unsigned 32 (floor binary64 x)) side)
    (c.floor_f64_to_u32-2.ensures ∙ ap (λ (x : Float). to_unsigned 32 (floor binary64 (mul binary64 x last))) side)
