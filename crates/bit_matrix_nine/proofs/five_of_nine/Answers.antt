-- `bit_matrix_nine::five_of_nine` meets its contract: one test that passes for all numbers below 8, computed.
use Rattle.std.proofs.Common.{ℕ, ◌+◌, ◌*◌, ◌/◌, ◌%◌, ◌^◌, ◌<◌, Bool, not, ◌≡◌, arith, bit_and, bit_or, bit_xor, eqb, leb}
use Rattle.std.proofs.lemmas.Nat.{or_lt, xor_lt}
use Rattle.std.proofs.Math.Arith.{digits_div, digits_mod}
use Rattle.std.proofs.Math.Bool.{beq}
use Rattle.std.specs.Int.Bits.{and_lt}
use Rattle.reads.specs.EveryLaws.{every_at, same_truth}
use Rattle.bit_matrix_nine.specs.AreaWords.{ones}
use Rattle.bit_matrix_nine.proofs.five_of_nine.Goals as goal

-- the code's two numbers, and its answer
abbrev odd : ℕ → ℕ → ℕ → ℕ
odd a b c = bit_xor (bit_xor a b) c

abbrev pairs : ℕ → ℕ → ℕ → ℕ
pairs a b c = bit_or (bit_and a b) (bit_and (bit_xor a b) c)

abbrev answer : ℕ → ℕ → ℕ → Bool
answer a b c = not (eqb (bit_and (0xfffe_fe80_fe80_8000 / 2 ^ (odd a b c + 8 * pairs a b c)) 1) 0)

abbrev right : ℕ → ℕ → ℕ → Bool
right a b c = leb 9 (2 * (ones a + ones b + ones c))

-- three numbers below 8 as one below 512, whose digits they are
abbrev passes : ℕ → Bool
passes n = beq (answer (n % 8) (n / 8 % 8) (n / 8 / 8)) (right (n % 8) (n / 8 % 8) (n / 8 / 8))

module _ (a b c : ℕ) (first : a < 8) (second : b < 8) (third : c < 8) where
  answered : answer a b c ≡ right a b c
  answered =
      let passed = every_at passes 512 tt ((c * 8 + b) * 8 + a) (omega arith) in
      same_truth _ _ (rw (digits_div (c * 8 + b) first, digits_mod (c * 8 + b) first, digits_div c second, digits_mod c second) at passed)

  low : odd a b c + 8 * pairs a b c < 64
  low =
      omega (
        arith,
        xor_lt 3 (bit_xor a b) c (xor_lt 3 a b first second) third,
        or_lt 3 (bit_and a b) (bit_and (bit_xor a b) c) (and_lt 3 a b first second) (and_lt 3 (bit_xor a b) c (xor_lt 3 a b first second) third),
      )

pub overflow_shr-result : goal.overflow_shr-result
overflow_shr-result c = search low

pub returns : goal.returns
returns c = search answered
