-- A coordinate of the candidates as a list of numbers: its sum, its squares, its mean and its deviation. Assumes nothing.
use Rattle.std.specs.Prelude.{ℕ, ◌+◌, ◌*◌, ◌^◌, ◌≤◌, ◌<◌, List, [], ◌∷◌, ◌≡◌, refl, length, get_or, sum, fold, Float}
use Rattle.std.proofs.Common.{arith, sym, ap, ap₂, ◌∙◌}
use Rattle.std.proofs.lemmas.List.{length-map}
use Rattle.std.proofs.lemmas.List.Sums.{sum_by-cons}
use Rattle.std.specs.Float.{binary64}
use Rattle.std.specs.Float.Ieee.{of_bits, div, to_unsigned}
use Rattle.ieee_sqrt.specs.Sqrt.{sqrt}
use Rattle.ieee.specs.Whole.{real64}
use Rattle.reads.specs.Total.{total}
use Rattle.records.specs.Records.{Record}
use Rattle.records.specs.RecordsClauses.{Each}
use Rattle.detector_variances.specs.VariancesClauses.{Small}
use Rattle.detector_kept.specs.Spread.{fields_at, mean, with_square, squares, deviation, axis}
use Rattle.detector_kept.specs.declared.Axis.{Axis}

sum_is_total : (xs : List ℕ) → sum xs ≡ total xs
unfolding total
sum_is_total [] = refl
sum_is_total (x ∷ xs) = sum_by-cons (λ (n : ℕ). n) x xs ∙ ap (λ (n : ℕ). x + n) (sum_is_total xs)

sum_small : (k : ℕ) (rs : List Record) → Each Small rs → sum (fields_at k rs) ≤ 65535 * length rs
unfolding Each
sum_small k [] each = omega arith
sum_small k (r ∷ rs) each = omega (arith, sum_by-cons (λ (n : ℕ). n) (get_or r k 0) (fields_at k rs), each.0 k, sum_small k rs each.1)

pub sum_fits : (k : ℕ) (rs : List Record) → length rs ≤ 1024 → Each Small rs → sum (fields_at k rs) < 2 ^ 32
sum_fits k rs few each = omega (arith, sum_small k rs each)

fold_squares : (k : ℕ) (m acc : Float) (rs : List Record) → fold (λ (t : Float) (r : Record). with_square m t (get_or r k 0)) acc rs ≡ squares m acc (fields_at k rs)
unfolding squares
fold_squares k m acc [] = refl
fold_squares k m acc (r ∷ rs) = fold_squares k m (with_square m acc (get_or r k 0)) rs

-- the mean and the deviation, as `axis_of` computes them
module _ (k : ℕ) (rs : List Record) where
  abbrev xs : List ℕ
  xs = fields_at k rs

  counted : length rs ≡ length xs
  counted = sym (length-map rs (λ (r : Record). get_or r k 0))

  mean_is : (t : ℕ) → t ≡ sum xs → div binary64 (real64 t) (real64 (length rs)) ≡ mean xs
  unfolding mean
  mean_is t summed = ap₂ (λ (a b : ℕ). div binary64 (real64 a) (real64 b)) (summed ∙ sum_is_total xs) counted

  pub axis_is : (t : ℕ) (s d : Float) (dev m : ℕ) → t ≡ sum xs
      → s ≡ fold (λ (a : Float) (r : Record). with_square (div binary64 (real64 t) (real64 (length rs))) a (get_or r k 0)) (of_bits binary64 0) rs
      → d ≡ sqrt binary64 (div binary64 s (real64 (length rs))) → dev ≡ to_unsigned 32 d → m ≡ to_unsigned 32 (div binary64 (real64 t) (real64 (length rs)))
      → ◌≡◌ {A = Axis} (record { dev = dev; mean = m }) (axis xs)
  unfolding axis deviation
  axis_is t s d dev m summed squared root dev_is m_is =
      let about : Float = div binary64 (real64 t) (real64 (length rs)) in
      let whole : s ≡ squares (mean xs) (of_bits binary64 0) xs =
      squared ∙ fold_squares k about (of_bits binary64 0) rs ∙ ap (λ (a : Float). squares a (of_bits binary64 0) xs) (mean_is t summed)
      in
      ap₂ (λ (a b : ℕ). record { dev = a; mean = b })
      (dev_is ∙ ap (to_unsigned 32) (root ∙ ap₂ (λ (a : Float) (b : ℕ). sqrt binary64 (div binary64 a (real64 b))) whole counted))
      (m_is ∙ ap (to_unsigned 32) (mean_is t summed))
