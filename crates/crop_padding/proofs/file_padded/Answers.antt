-- `crop_padding::file_padded` meets its contract.
use Rattle.std.specs.Prelude.{ℕ, ◌+◌, ◌*◌, ◌-◌, ◌%◌, ◌^◌, ◌≤◌, ◌<◌, true, List, ◌≡◌, refl, length, get_or}
use Rattle.std.proofs.Common.{arith, sym, ap, ◌∙◌, lit<, add-one, one-mul, shl_exact}
use Rattle.std.proofs.Math.Arith.{digits_lt}
use Rattle.crop_sizes.specs.Sizes.{row_bytes, file_length}
use Rattle.crop_padding.specs.Padding.{file_row}
use Rattle.crop_padding.specs.Below.{any_below}
use Rattle.crop_padding.specs.AnyLaws.{any_found}
use Rattle.crop_padding.proofs.Padding.{last_byte, file_row_clean, file_row_set}
use Rattle.crop_padding.proofs.file_padded.Invariants.{Passed}
use Rattle.crop_padding.proofs.file_padded.Goals as goal

-- the shift gives the power of two by which the padding bits are the remainder
unit_is : (s : ℕ) → s < 8 → 1 * 2 ^ s % 2 ^ 8 ≡ 2 ^ s
unit_is s h = shl_exact {a = 1} 1 s 8 (lit< tt) (omega arith) ∙ one-mul (2 ^ s)

module _ (file : List ℕ) (w : ℕ) (some : 1 ≤ w) where
  begins : Passed file w 0 (3 + row_bytes w)
  unfolding any_below
  begins = record { place = omega arith; clean = refl }

  module _ {y last : ℕ} (passed : Passed file w y last) where
    -- what the code's remainder says of the row, where the shift is by as many bits as are padding
    rest_is : {s : ℕ} → s ≡ 8 * row_bytes w - w → get_or file last 0 % (1 * 2 ^ s % 2 ^ 8) ≡ get_or file (last_byte w y) 0 % 2 ^ (8 * row_bytes w - w)
    rest_is {s} spare =
        ap (λ (n : ℕ). get_or file n 0 % (1 * 2 ^ s % 2 ^ 8)) passed.place
        ∙ ap (λ (n : ℕ). get_or file (last_byte w y) 0 % n) (unit_is s (omega (arith, spare)) ∙ ap (λ (n : ℕ). 2 ^ n) spare)

    onward : {s : ℕ} → get_or file last 0 % (1 * 2 ^ s % 2 ^ 8) ≡ 0 → s ≡ 8 * row_bytes w - w → Passed file w (y + 1) (last + row_bytes w)
    unfolding any_below
    onward e spare =
        record { place = omega (arith, passed.place); clean = rw (add-one, file_row_clean file w y some (sym (rest_is spare) ∙ e)) passed.clean }

    found : {h s : ℕ} → y < h → (get_or file last 0 % (1 * 2 ^ s % 2 ^ 8) ≡ 0 → ⊥) → s ≡ 8 * row_bytes w - w → true ≡ any_below (file_row file w) h
    found {h} row ne spare = sym (any_found (file_row file w) h row (file_row_set file w y some λ e. ne (rest_is spare ∙ e)))

    inside : {h : ℕ} → length file ≡ file_length w h → y < h → last < length file
    inside size row = rw size (omega (arith, passed.place, digits_lt {r = row_bytes w - 1} {c = row_bytes w} row (omega arith)))

pub loop-y-init : goal.loop-y-init
loop-y-init c = begins c.args.file.now.bytes.now c.args.file.now.shape.width (omega (arith, c.args.file.now.limits.width_least))

pub loop-y-preserved : goal.loop-y-preserved
loop-y-preserved c =
    onward c.args.file.now.bytes.now c.args.file.now.shape.width (omega (arith, c.args.file.now.limits.width_least)) c.loop-y.invariant c.if-file-last-ne0.false (omega arith)

pub bounds-file-last : goal.bounds-file-last
bounds-file-last c =
    inside c.args.file.now.bytes.now c.args.file.now.shape.width (omega (arith, c.args.file.now.limits.width_least)) c.loop-y.invariant c.args.file.now.sized c.loop-y-test.true

pub returns-then-file-last-ne0 : goal.returns-then-file-last-ne0
returns-then-file-last-ne0 c =
    found c.args.file.now.bytes.now c.args.file.now.shape.width (omega (arith, c.args.file.now.limits.width_least)) c.loop-y.invariant c.loop-y-test.true c.if-file-last-ne0.true
    (omega arith)

pub returns : goal.returns
returns c =
    let all : c.loop-y._y ≡ c.args.file.now.shape.height = omega arith in
    sym (ap (any_below (file_row c.args.file.now.bytes.now c.args.file.now.shape.width)) (sym all) ∙ c.loop-y.invariant.clean)
