-- `bit_runs::first_black` meets its contract.
use Rattle.std.proofs.Common.{ℕ, ◌+◌, ◌-◌, ◌*◌, ◌/◌, ◌%◌, ◌^◌, ◌≤◌, ◌<◌, min, max, true, false, not, ◌≡◌, refl, sym, ap, ◌∙◌, List, get_or, eqb, arith}
use Rattle.std.proofs.Math.Decide.{dec_lt}
use Rattle.std.specs.Int.Count.{count_trailing_zeros, trailing_of_zero}
use Rattle.reads.specs.Bits.{test_bit}
use Rattle.bit_runs.specs.BitRuns.{row_bit, FirstBlack}
use Rattle.bit_runs.specs.ChangesLaws.{trailing_clear, trailing_set}
use Rattle.bit_runs.proofs.WordLaws.{row_bit_lem, word_down, zeros_lt}
use Rattle.bit_runs.proofs.first_black.Invariants.{Passed}
use Rattle.bit_runs.proofs.first_black.Goals as goal

-- Column i, the first of word `word` that is looked at, and n is the number of the word's zeros from i's place on.
module _ {words : List ℕ} {first from word i w n : ℕ} (passed : Passed words first from (word * 64)) (below : from / 64 ≤ word) (column : i ≡ max from (word * 64))
    (is : w ≡ get_or words (first + word) 0) (count : n ≡ count_trailing_zeros 64 (w / 2 ^ (i % 64))) where
  here : w ≡ get_or words (first + i / 64) 0
  here =
      let same : word ≡ i / 64 = omega arith in
      is ∙ ap (λ (k : ℕ). get_or words (first + k) 0) same

  white_at_lem : (d : ℕ) → d < n → d + i % 64 < 64 → row_bit words first (i + d) ≡ false
  unfolding test_bit
  white_at_lem d low h =
      rw (row_bit_lem words first i d h, ← here) (ap (λ (x : ℕ). not (eqb x 0)) (trailing_clear 64 (w / 2 ^ (i % 64)) d (omega arith)))

  black_at_lem : n + i % 64 < 64 → row_bit words first (i + n) ≡ true
  unfolding test_bit
  black_at_lem h =
      rw (row_bit_lem words first i n h, ← here)
      (ap (λ (x : ℕ). not (eqb x 0)) (ap (λ (d : ℕ). w / 2 ^ (i % 64) / 2 ^ d % 2) count ∙ trailing_set 64 (w / 2 ^ (i % 64)) (omega arith)))

  -- the columns up to e, as far as the word and its zeros go
  upto : (e : ℕ) → e ≤ i + n → e + i % 64 ≤ i + 64 → (k : ℕ) → from ≤ k → k < e → row_bit words first k ≡ false
  upto e low in_word k after before = go (dec_lt k (word * 64))
    where
      go : Dec (k < word * 64) → row_bit words first k ≡ false
      go (yes h) = passed.white k after h
      go (no h) =
          let sum : i + (k - i) ≡ k = omega arith in
          ap (row_bit words first) (sym sum) ∙ white_at_lem (k - i) (omega arith) (omega arith)

  onward : 64 - i % 64 ≤ n → Passed words first from ((word + 1) * 64)
  onward h = record { white = upto ((word + 1) * 64) (omega arith) (omega arith) }

  found : {to r : ℕ} → i ≤ to → n < 64 - i % 64 → r ≡ min (i + n) to → FirstBlack (row_bit words first) from to r
  found {to} {r} more h e = record {
    after = omega arith;
    within = omega arith;
    white = upto r (omega arith) (omega arith);
    black = λ less.
        let end : r ≡ i + n = omega arith in
        ap (row_bit words first) end ∙ black_at_lem (omega arith);
  }

pub returns-then-black-ne0 : goal.returns-then-black-ne0
returns-then-black-ne0 c =
    let low : c.word_at.result / 2 ^ (c.max-column.result % 64) < 2 ^ (64 - c.max-column.result % 64) = word_down _ _ (omega arith) c.word_at.type_inv in
    found c.loop-word.invariant c.loop-word.auto.word c.max-column.ensures c.word_at.ensures refl (omega arith)
    (zeros_lt _ _ (omega (arith, c.if-black-ne0.true)) low (omega arith)) c.min.ensures

pub loop-word-preserved : goal.loop-word-preserved
loop-word-preserved c =
    onward c.loop-word.invariant c.loop-word.auto.word c.max-column.ensures c.word_at.ensures refl
    (rw (c.if-black-ne0.false, trailing_of_zero) (omega arith))
