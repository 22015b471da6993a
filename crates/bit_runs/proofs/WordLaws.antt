-- A mask as the code makes it, and a word moved down has the bits of a row from a column on. Assumes nothing.
use Rattle.std.proofs.Common.{ℕ, ◌+◌, ◌-◌, ◌*◌, ◌/◌, ◌%◌, ◌^◌, ◌≤◌, ◌<◌, arith, ◌≡◌, sym, ap, ap₂, ◌∙◌, one-mul, pow_pos, pow_mono, shr_lt, w64, List, get_or, shl_exact, shr-shr}
use Rattle.std.proofs.Math.Pow.{high, ones_lt, ones_split, high_ones}
use Rattle.std.proofs.Math.Decide.{dec_lt}
use Rattle.std.proofs.Math.Nat.{div-eq_of_lt}
use Rattle.std.specs.Int.Count.{count_trailing_zeros}
use Rattle.std.proofs.lemmas.Nat.Bits.{bit_at-trailing_zeros}
use Rattle.bit_runs.specs.ChangesLaws.{trailing_set}
use Rattle.reads.specs.Bits.{test_bit, bit_at}
use Rattle.reads.specs.MasksLaws.{mask}
use Rattle.bit_runs.specs.BitRuns.{row_bit}

-- ---- a mask

-- ones moved down
ones_down : (n k m : ℕ) → n + k ≡ m → (2 ^ m - 1) / 2 ^ k ≡ 2 ^ n - 1
ones_down n k m parts =
    ap (λ (i : ℕ). (2 ^ i - 1) / 2 ^ k) (sym parts) ∙ ap (λ (i : ℕ). i / 2 ^ k) (ones_split n k) ∙ high (2 ^ n - 1) k (ones_lt k)

-- the code's ones below a place, and its mask
pub ones_below : (end : ℕ) → end ≤ 64 → (2 ^ 64 - 1) / 2 ^ (64 - end) ≡ 2 ^ end - 1
ones_below end high = ones_down end (64 - end) 64 (omega arith)

pub one_at : (p : ℕ) → p < 64 → 1 * 2 ^ p % 2 ^ 64 ≡ 2 ^ p
one_at p low = shl_exact {a = 1} 1 p 64 (omega arith) (omega arith) ∙ one-mul (2 ^ p)

pub mask_is : (p end : ℕ) → p < 64 → p ≤ end → end ≤ 64 → (2 ^ 64 - 1) / 2 ^ (64 - end) - (1 * 2 ^ p % 2 ^ 64 - 1) ≡ mask (end - p) p
mask_is p end small low high =
    let parts : end - p + p ≡ end = omega arith in
    let one : 2 ^ end - 1 - (2 ^ p - 1) ≡ 2 ^ end - 2 ^ p = omega (arith, pow_pos p) in
    ap₂ (λ (a b : ℕ). a - (b - 1)) (ones_below end high) (one_at p small) ∙ one
    ∙ ap (λ (k : ℕ). 2 ^ k - 2 ^ p) (sym parts) ∙ high_ones (end - p) p

-- ---- the bits of a row from column i on, in i's word

pub row_bit_lem : (words : List ℕ) (first i d : ℕ) → d + i % 64 < 64 → row_bit words first (i + d) ≡ test_bit (get_or words (first + i / 64) 0 / 2 ^ (i % 64)) d
unfolding bit_at test_bit
row_bit_lem words first i d h =
    let word : (first * 64 + (i + d)) / 64 ≡ first + i / 64 = omega arith in
    let place : (first * 64 + (i + d)) % 64 ≡ i % 64 + d = omega arith in
    rw (word, place, shr-shr)

-- ---- the zeros of a word, moved down

pub word_down : (w p : ℕ) → p < 64 → w < 2 ^ 64 → w / 2 ^ p < 2 ^ (64 - p)
word_down w p small low =
    let parts : 64 - p + p ≡ 64 = omega arith in
    shr_lt (64 - p) p (rw parts low)

-- a word of k bits with a bit set has fewer zeros below it
pub zeros_lt : (v k : ℕ) → 0 < v → v < 2 ^ k → k ≤ 64 → count_trailing_zeros 64 v < k
zeros_lt v k some low few = go (dec_lt n k) (dec_lt v (2 ^ n))
  where
    n : ℕ
    n = count_trailing_zeros 64 v

    digit : v / 2 ^ n % 2 ≡ 1
    digit =
        let wide : 2 ^ k ≤ 2 ^ 64 = pow_mono few in
        trailing_set 64 v (bit_at-trailing_zeros w64 v some (omega arith)).0

    go : Dec (n < k) → Dec (v < 2 ^ n) → n < k
    go (yes h) _ = h
    go (no far) (yes small) =
        let none : v / 2 ^ n ≡ 0 = div-eq_of_lt small in
        absurd (omega (arith, digit))
    go (no far) (no big) =
        let reach : 2 ^ k ≤ 2 ^ n = pow_mono (omega arith) in
        absurd (omega arith)
