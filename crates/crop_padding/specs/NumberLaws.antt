-- Laws of the number with given bits, and of the bits of a number. Assumes nothing.
use Rattle.std.proofs.Common.{arith, add-suc, add-zero, mod-eq_of_lt, lt_of_lt_of_le, sym, ap₂, ◌∙◌, pow-add, pow_mono, shr-shr}
use Rattle.std.proofs.Math.Nat.{pow-suc, mod-one, zero-div, div-eq_of_lt}
use Rattle.std.specs.Prelude.{Bool, true, false, ◌≡◌, refl, eqb, ℕ, zero, suc, ◌+◌, ◌*◌, ◌-◌, ◌/◌, ◌%◌, ◌^◌, ◌≤◌, ◌<◌}
use Rattle.std.proofs.Math.Bool.{not}
use Rattle.std.proofs.Math.Path.{ap}
use Rattle.std.proofs.Math.Arith.{digits_mod}
use Rattle.std.proofs.Math.Pow.{high, field, mod-mod-pow}
use Rattle.std.proofs.lemmas.Nat.{mod-pow-add}
use Rattle.reads.specs.Bits.{digit, test_bit}
use Rattle.crop_padding.specs.Below.{number}

pub number_lt : (p : ℕ → Bool) (n : ℕ) → number p n < 2 ^ n
unfolding number
number_lt p zero = omega arith
number_lt p (suc n) = go (p n) (number_lt p n)
  where
    go : (b : Bool) → number p n < 2 ^ n → digit b * 2 ^ n + number p n < 2 ^ suc n
    go true h = omega arith
    go false h = omega arith

-- equal bits make equal numbers
pub number_same : (p q : ℕ → Bool) (n : ℕ) → ((k : ℕ) → k < n → p k ≡ q k) → number p n ≡ number q n
unfolding number
number_same p q zero same = refl
number_same p q (suc n) same =
    ap₂ (λ (b : Bool) (m : ℕ). digit b * 2 ^ n + m) (same n (omega arith)) (number_same p q n λ k h. same k (omega arith))

-- the upper bits are a number of their own
pub number_add : (p : ℕ → Bool) (n m : ℕ) → number p (n + m) ≡ number (λ k. p (n + k)) m * 2 ^ n + number p n
unfolding number
number_add p n zero = rw add-zero (omega arith)
number_add p n (suc m) = rw (add-suc, pow-add 2 n m) (omega (arith, number_add p n m))

-- the bits of the number are those given
digit_bit : (b : Bool) (m : ℕ) → not (eqb ((m * 2 + digit b) % 2) 0) ≡ b
digit_bit true m = ap (λ (d : ℕ). not (eqb d 0)) (digits_mod m {m = 2} {r = 1} (omega arith))
digit_bit false m = ap (λ (d : ℕ). not (eqb d 0)) (digits_mod m {m = 2} {r = 0} (omega arith))

module _ (p : ℕ → Bool) (n k : ℕ) (h : k < n) where
  abbrev above : ℕ
  above = number (λ j. p (suc k + j)) (n - suc k)

  split : number p n ≡ (above * 2 + digit (p k)) * 2 ^ k + number p k
  unfolding number
  split =
      let whole : suc k + (n - suc k) ≡ n = omega arith in
      ap (number p) (sym whole) ∙ number_add p (suc k) (n - suc k) ∙ rw pow-suc (omega arith)

  pub test_number : test_bit (number p n) k ≡ p k
  unfolding test_bit
  test_number =
      ap (λ (d : ℕ). not (eqb (d % 2) 0)) (ap (λ (m : ℕ). m / 2 ^ k) split ∙ high (above * 2 + digit (p k)) k (number_lt p k))
      ∙ digit_bit (p k) above

-- the bits of a number that has no more than n
bit_digit : (d : ℕ) → d < 2 → digit (not (eqb d 0)) ≡ d
bit_digit zero h = refl
bit_digit (suc zero) h = refl
bit_digit (suc (suc d)) h = absurd (omega arith)

pub number_low : (m n : ℕ) → number (test_bit m) n ≡ m % 2 ^ n
unfolding number test_bit
number_low m zero = sym (mod-one m)
number_low m (suc n) =
    ap₂ (λ (d r : ℕ). d * 2 ^ n + r) (bit_digit (m / 2 ^ n % 2) (omega arith)) (number_low m n)
    ∙ sym (ap (λ (k : ℕ). m % 2 ^ k) (suc_one n) ∙ mod-pow-add m 1 n)
  where
    suc_one : (k : ℕ) → suc k ≡ 1 + k
    suc_one k = omega arith

pub number_bits : {m : ℕ} (n : ℕ) → m < 2 ^ n → number (test_bit m) n ≡ m
number_bits {m} n h = number_low m n ∙ mod-eq_of_lt h

-- past the bits of a number all are clear
pub test_past : {m : ℕ} (n : ℕ) {k : ℕ} → m < 2 ^ n → n ≤ k → test_bit m k ≡ false
unfolding test_bit
test_past n h l = ap (λ (d : ℕ). not (eqb (d % 2) 0)) (div-eq_of_lt (lt_of_lt_of_le h (pow_mono l)))

-- a bit of a number shifted down
pub test_shr : (m d k : ℕ) → test_bit (m / 2 ^ d) k ≡ test_bit m (d + k)
unfolding test_bit
test_shr m d k = ap (λ (n : ℕ). not (eqb (n % 2) 0)) (shr-shr m d k)

-- a number with no remainder by 2 ^ n has its lowest n bits clear
pub low_clear : (m n : ℕ) {j : ℕ} → m % 2 ^ n ≡ 0 → j < n → test_bit m j ≡ false
unfolding test_bit
low_clear m n {j} e h =
    let places : n ≡ n - suc j + 1 + j = omega arith in
    ap (λ (d : ℕ). not (eqb d 0))
    (sym (mod-mod-pow (m / 2 ^ j) (n - suc j) 1)
    ∙ ap (λ (d : ℕ). d % 2) (sym (field m (n - suc j + 1) j) ∙ ap (λ (d : ℕ). d / 2 ^ j) (ap (λ (s : ℕ). m % 2 ^ s) (sym places) ∙ e) ∙ zero-div (2 ^ j)))
