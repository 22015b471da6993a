-- Bytes put together as one word. Assumes nothing.
use Rattle.std.specs.Prelude.{ℕ, zero, suc, ◌+◌, ◌*◌, ◌/◌, ◌%◌, ◌^◌, ◌≤◌, ◌<◌, List, ◌≡◌, refl, bit_or, length, get_or, take, drop}
use Rattle.std.specs.Int.{sum_through, byte_worth}
use Rattle.std.proofs.Common.{arith, sym, ap, ap₂, ◌∙◌, add_comm, pow-add, shl_exact, get_or-take}
use Rattle.std.proofs.Math.Nat.{pow-suc}
use Rattle.std.proofs.lemmas.List.{get_or-drop}
use lib.Bits.{or_shifted_r}
use Rattle.reads.specs.Bits.{test_bit}
use Rattle.crop_padding.specs.Below.{number}
use Rattle.crop_rows.specs.Bytes.{byte_bit}
use Rattle.crop_padding.specs.NumberLaws.{number_lt, number_same, number_add, number_bits}

module _ (file : List ℕ) (from : ℕ) where
  -- one byte
  pub byte_is : get_or file from 0 < 2 ^ 8 → get_or file from 0 ≡ number (byte_bit file from) 8
  byte_is small =
      sym
      (number_same (byte_bit file from) (test_bit (get_or file from 0)) 8
      (λ k h.
      let byte : from + k / 8 ≡ from = omega arith in
      let place : k % 8 ≡ k = omega arith in
      ap₂ (λ (q r : ℕ). test_bit (get_or file q 0) r) byte place)
      ∙ number_bits 8 small)

  -- the m bits after c bytes, put above them
  pub joined : (c m : ℕ) {low high : ℕ} → 8 * c + m ≤ 64 → low ≡ number (byte_bit file from) (8 * c) → high ≡ number (byte_bit file (from + c)) m
      → bit_or low (high * 2 ^ (8 * c) % 2 ^ 64) ≡ number (byte_bit file from) (8 * c + m)
  joined c m {low} {high} fits low_is high_is =
      let below : low < 2 ^ (8 * c) = rw low_is (number_lt (byte_bit file from) (8 * c)) in
      let small : high < 2 ^ m = rw high_is (number_lt (byte_bit file (from + c)) m) in
      let bits : number (byte_bit file (from + c)) m ≡ number (λ k. byte_bit file from (8 * c + k)) m =
      number_same (byte_bit file (from + c)) (λ k. byte_bit file from (8 * c + k)) m
      (λ k h.
      let byte : from + c + k / 8 ≡ from + (8 * c + k) / 8 = omega arith in
      let place : k % 8 ≡ (8 * c + k) % 8 = omega arith in
      ap₂ (λ (q r : ℕ). test_bit (get_or file q 0) r) byte place)
      in
      ap (bit_or low) (shl_exact {a = high} m (8 * c) 64 small (omega arith)) ∙ or_shifted_r high (8 * c) low below
      ∙ ap₂ (λ (a b : ℕ). a * 2 ^ (8 * c) + b) (high_is ∙ bits) low_is ∙ sym (number_add (byte_bit file from) (8 * c) m)

-- ---- bytes that are those of a file from some place on

bytes_power : (n : ℕ) → 256 ^ n ≡ 2 ^ (8 * n)
bytes_power zero = refl
bytes_power (suc n) =
    let more : 8 * suc n ≡ 8 * n + 8 = omega arith in
    rw (pow-suc, more, pow-add 2 (8 * n) 8, bytes_power n) refl

module _ (file : List ℕ) (small : (i : ℕ) → get_or file i 0 < 2 ^ 8) (from : ℕ) (bytes : List ℕ) where
  -- the bits of byte c
  upper : (c : ℕ) → number (λ k. byte_bit file from (8 * c + k)) 8 ≡ get_or file (from + c) 0
  upper c =
      sym (byte_is file (from + c) (small (from + c))
      ∙ number_same (byte_bit file (from + c)) (λ k. byte_bit file from (8 * c + k)) 8 λ k h.
      let byte : from + c + k / 8 ≡ from + (8 * c + k) / 8 = omega arith in
      let place : k % 8 ≡ (8 * c + k) % 8 = omega arith in
      ap₂ (λ (q r : ℕ). test_bit (get_or file q 0) r) byte place)

  -- the sum of the bytes, each by its worth, is their number
  pub worth : (k : ℕ) → ((i : ℕ) → i < suc k → get_or bytes i 0 ≡ get_or file (from + i) 0)
      → sum_through (λ i. byte_worth i (get_or bytes i 0)) k ≡ number (byte_bit file from) (8 * suc k)
  worth zero same =
      let start : from + 0 ≡ from = omega arith in
      same 0 (omega arith) ∙ ap (λ (n : ℕ). get_or file n 0) start ∙ byte_is file from (small from)
  worth (suc k) same =
      let more : 8 * suc k + 8 ≡ 8 * suc (suc k) = omega arith in
      rw (worth k λ i h. same i (omega arith), same (suc k) (omega arith), bytes_power (suc k), ← upper (suc k))
      (sym (ap (number (byte_bit file from)) (sym more) ∙ number_add (byte_bit file from) (8 * suc k) 8 ∙ add_comm _ _))

  -- the bits of the bytes are those of the file
  pub bits : (n : ℕ) → ((i : ℕ) → i < n → get_or bytes i 0 ≡ get_or file (from + i) 0) → number (byte_bit bytes 0) (8 * n) ≡ number (byte_bit file from) (8 * n)
  bits n same =
      number_same (byte_bit bytes 0) (byte_bit file from) (8 * n) λ k h.
      let byte : 0 + k / 8 ≡ k / 8 = omega arith in
      ap (λ (b : ℕ). test_bit b (k % 8)) (ap (λ (i : ℕ). get_or bytes i 0) byte ∙ same (k / 8) (omega arith))

module _ (bytes : List ℕ) (small : (i : ℕ) → get_or bytes i 0 < 2 ^ 8) where
  -- a byte alone
  pub single : length bytes ≡ 1 → get_or bytes 0 0 ≡ number (byte_bit bytes 0) (8 * length bytes)
  single one =
      let all : 8 ≡ 8 * length bytes = omega (arith, one) in
      byte_is bytes 0 (small 0) ∙ ap (number (byte_bit bytes 0)) all

  -- the first c + 1 bytes, and the rest put above them
  pub parted : (c : ℕ) (first rest : List ℕ) {low high : ℕ} → length bytes ≤ 8 → length rest + suc c ≡ length bytes → first ≡ take (suc c) bytes → rest ≡ drop (suc c) bytes
      → low ≡ sum_through (λ i. byte_worth i (get_or first i 0)) c → high ≡ number (byte_bit rest 0) (8 * length rest)
      → bit_or low (high * 2 ^ (8 * suc c) % 2 ^ 64) ≡ number (byte_bit bytes 0) (8 * length bytes)
  parted c first rest most long firsts rests low_is high_is =
      let all : 8 * suc c + 8 * length rest ≡ 8 * length bytes = omega (arith, long) in
      joined bytes 0 (suc c) (8 * length rest) (omega (arith, long))
      (low_is
      ∙ worth bytes small 0 first c
      (λ i h.
      let place : i ≡ 0 + i = omega arith in
      ap (λ (l : List ℕ). get_or l i 0) firsts ∙ get_or-take (suc c) bytes i 0 h ∙ ap (λ (n : ℕ). get_or bytes n 0) place))
      (high_is
      ∙ bits bytes small (0 + suc c) rest (length rest)
      (λ i h.
      let place : suc c + i ≡ 0 + suc c + i = omega arith in
      ap (λ (l : List ℕ). get_or l i 0) rests ∙ get_or-drop (suc c) bytes i 0 ∙ ap (λ (n : ℕ). get_or bytes n 0) place))
      ∙ ap (number (byte_bit bytes 0)) all
