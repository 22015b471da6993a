-- `bit_runs::changes` meets its contract: the union of a word moved up and a bit has each bit's predecessor in its place.
use Rattle.std.proofs.Common.{ℕ, zero, suc, ◌+◌, ◌-◌, ◌*◌, ◌/◌, ◌%◌, ◌^◌, ◌<◌, Bool, true, false, not, ◌≡◌, refl, sym, ap, ap₂, ◌∙◌, List, div-one, arith, eqb, get_or, shr-shr, bit_or, bit_xor}
use Rattle.std.proofs.Math.Bool.{xor}
use Rattle.std.proofs.Math.Nat.{div-eq_of_lt}
use Rattle.std.proofs.lemmas.Nat.{or_shr, or_mod, xor_shr, xor_mod}
use lib.Bits.{or_zero_r}
use Rattle.std.proofs.Math.Pow.{field, mod-mod-pow, pow-lt, shl-shr}
use Rattle.reads.specs.Bits.{digit, test_bit}
use Rattle.reads.proofs.BitsLaws.{digit_low}
use Rattle.bit_runs.specs.BitRuns.{row_bit, Changes}
use Rattle.bit_runs.proofs.WordLaws.{row_bit_lem}
use Rattle.bit_runs.proofs.changes.Goals as goal

test_xor : (x y j : ℕ) → test_bit (bit_xor x y) j ≡ xor (test_bit x j) (test_bit y j)
unfolding test_bit xor
test_xor x y j =
    ap (λ (n : ℕ). not (eqb n 0)) (ap (λ (n : ℕ). n % 2) (xor_shr x y j) ∙ xor_mod (x / 2 ^ j) (y / 2 ^ j) 1)
    ∙ differ (x / 2 ^ j % 2) (y / 2 ^ j % 2) (omega arith) (omega arith)
  where
    differ : (d e : ℕ) → d < 2 → e < 2 → not (eqb (bit_xor d e) 0) ≡ xor (not (eqb d 0)) (not (eqb e 0))
    differ zero zero low less = refl
    differ zero (suc zero) low less = refl
    differ (suc zero) zero low less = refl
    differ (suc zero) (suc zero) low less = refl
    differ (suc (suc d)) e low less = absurd (omega arith)
    differ zero (suc (suc e)) low less = absurd (omega arith)
    differ (suc zero) (suc (suc e)) low less = absurd (omega arith)

-- x moved up by one, with a bit b below it
abbrev before : ℕ → Bool → ℕ
before x b = bit_or (x * 2 ^ 1 % 2 ^ 64) (digit b)

before_first : (x : ℕ) (b : Bool) → test_bit (before x b) 0 ≡ b
unfolding test_bit
before_first x b =
    let even : x * 2 ^ 1 % 2 ^ 64 % 2 ^ 1 ≡ 0 = mod-mod-pow (x * 2 ^ 1) 63 1 ∙ omega arith in
    ap (λ (n : ℕ). not (eqb n 0))
    (ap (λ (n : ℕ). n % 2) (div-one (before x b)) ∙ or_mod (x * 2 ^ 1 % 2 ^ 64) (digit b) 1 ∙ ap (λ (n : ℕ). bit_or n (digit b % 2 ^ 1)) even)
    ∙ lowest b
  where
    lowest : (c : Bool) → not (eqb (bit_or 0 (digit c % 2 ^ 1)) 0) ≡ c
    lowest true = refl
    lowest false = refl

before_later : (x : ℕ) (b : Bool) (j : ℕ) → suc j < 64 → test_bit (before x b) (suc j) ≡ test_bit x j
unfolding test_bit
before_later x b j h =
    let bits : 62 - j + 1 + suc j ≡ 64 = omega arith in
    let parts : 1 + j ≡ suc j = omega arith in
    let top : x * 2 ^ 1 / 2 ^ suc j ≡ x / 2 ^ j =
    ap (λ (n : ℕ). x * 2 ^ 1 / 2 ^ n) (sym parts) ∙ sym (shr-shr (x * 2 ^ 1) 1 j) ∙ ap (λ (n : ℕ). n / 2 ^ j) (shl-shr x 1) in
    let word : x * 2 ^ 1 % 2 ^ 64 / 2 ^ suc j % 2 ≡ x / 2 ^ j % 2 =
    ap (λ (n : ℕ). x * 2 ^ 1 % 2 ^ n / 2 ^ suc j % 2) (sym bits) ∙ ap (λ (n : ℕ). n % 2) (field (x * 2 ^ 1) (62 - j + 1) (suc j))
    ∙ mod-mod-pow (x * 2 ^ 1 / 2 ^ suc j) (62 - j) 1 ∙ ap (λ (n : ℕ). n % 2) top in
    let high : 2 ^ 0 < 2 ^ suc j = pow-lt {i = 0} (omega arith) in
    let none : digit b / 2 ^ suc j ≡ 0 = div-eq_of_lt (omega (arith, digit_low b, high)) in
    ap (λ (n : ℕ). not (eqb n 0))
    (ap (λ (n : ℕ). n % 2) (or_shr (x * 2 ^ 1 % 2 ^ 64) (digit b) (suc j) ∙ ap (bit_or (x * 2 ^ 1 % 2 ^ 64 / 2 ^ suc j)) none ∙ or_zero_r _) ∙ word)

returned : (words : List ℕ) (first from : ℕ) {w : ℕ} {black : Bool} → w ≡ get_or words (first + from / 64) 0
    → Changes (row_bit words first) black from (64 - from % 64) (bit_xor (w / 2 ^ (from % 64)) (before (w / 2 ^ (from % 64)) black))
returned words first from {w} {black} is =
    let at : (d : ℕ) → d + from % 64 < 64 → test_bit (w / 2 ^ (from % 64)) d ≡ row_bit words first (from + d) =
    λ d h. ap (λ (v : ℕ). test_bit (v / 2 ^ (from % 64)) d) is ∙ sym (row_bit_lem words first from d h) in
    let here : from + 0 ≡ from = omega arith in
    record {
      first = λ low.
          test_xor _ _ 0 ∙ ap₂ xor (at 0 (omega arith) ∙ ap (row_bit words first) here) (before_first (w / 2 ^ (from % 64)) black);
      later = λ j low.
          test_xor _ _ (suc j) ∙ ap₂ xor (at (suc j) (omega arith)) (before_later (w / 2 ^ (from % 64)) black j (omega arith) ∙ at j (omega arith));
    }

pub returns : goal.returns
returns c = returned _ _ _ c.word_at.ensures
