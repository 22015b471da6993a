-- A record's variance is a number that is not negative (`varied_unsigned`), and its other words are as they were (`varied_word`). Assumes nothing.
use Rattle.std.specs.Prelude.{ℕ, zero, suc, ◌+◌, ◌≤◌, ◌≡◌, List, [], ◌∷◌, length, get_or, take, drop}
use Rattle.std.proofs.Common.{arith, ap, ◌∙◌, length-drop, length-take-le, get_or-drop, get_or-set_same, get_or-set_other}
use Rattle.std.specs.Float.{binary32}
use Rattle.std.specs.Float.Ieee.{of_bits}
use Rattle.std.specs.Float.Ieee.Bits.{of_bits-to_bits}
use Rattle.records.specs.Fields as field
use Rattle.records.specs.Records.{Record}
use Rattle.detector_variance.specs.Variance.{circle_variance}
use Rattle.detector_variance.specs.VarianceClauses.{Short}
use Rattle.detector_variance.specs.NeverNaNLaws.{unsigned, variance_unsigned, variance_fits}
use Rattle.detector_variances.specs.Variances.{runs_from, variance_bits, with_variance, variance_of}
use Rattle.detector_variances.specs.VariancesClauses.{Small, UnsignedVariance}

small_take : (n : ℕ) (l : List ℕ) → Small l → Small (take n l)
small_take zero l small k = omega arith
small_take (suc n) [] small k = omega arith
small_take (suc n) (x ∷ l) small zero = small 0
small_take (suc n) (x ∷ l) small (suc k) = small_take n l (λ j. small (suc j)) k

pub short : (r : Record) (at : ℕ) → length r ≡ 40 → at + 11 ≤ 40 → Small r → Short (runs_from at r)
short r at whole h small = record {
  eleven = length-take-le 11 (drop at r) (simp length-drop (omega arith));
  small = small_take 11 (drop at r) (λ k. rw get_or-drop (small (at + k)));
}

-- word 25 gives the variance back
variance_back : (r : Record) → length r ≡ 40 → variance_of (with_variance r) ≡ circle_variance (runs_from 3 r) (runs_from 14 r)
unfolding with_variance variance_bits
variance_back r e =
    ap (of_bits binary32) (get_or-set_same r 25 (variance_bits r) 0 (omega arith))
    ∙ of_bits-to_bits binary32 (circle_variance (runs_from 3 r) (runs_from 14 r)) (variance_fits (runs_from 3 r) (runs_from 14 r))

pub varied_unsigned : (r : Record) → (length r ≡ 40) × Small r → UnsignedVariance (with_variance r)
varied_unsigned r (e, small) =
    ap unsigned (variance_back r e) ∙ variance_unsigned (runs_from 3 r) (runs_from 14 r) (short r 3 e (omega arith) small).small
    (short r 14 e (omega arith) small).small

pub varied_word : (r : Record) (k : ℕ) → (k ≡ field.variance → ⊥) → get_or (with_variance r) k 0 ≡ get_or r k 0
unfolding with_variance
varied_word r k other = get_or-set_other r field.variance k (variance_bits r) 0 other
