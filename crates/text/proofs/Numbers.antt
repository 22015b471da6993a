-- A number as the library writes it is the definition's text. Assumes nothing.
use Rattle.std.proofs.Common.{ℕ, zero, suc, ◌-◌, ◌^◌, ◌≤◌, ◌<◌, arith, Bool, true, false, cond, List, ◌≡◌, refl, ap, ◌∙◌, ltb-true, ltb-false, ltb}
use Rattle.std.proofs.Math.Nat.{pow-le-pow_right}
use Rattle.io.specs.Digits.{last_digits, IsDigitCount}
use Rattle.text.specs.Text.{places, decimal_of, hex_of}
use Rattle.text.specs.TextLaws.{places_few}

module _ {b least n : ℕ} (base : 1 < b) where
  not_fewer : {j k : ℕ} → IsDigitCount b least n j → IsDigitCount b least n k → j < k → ⊥
  not_fewer {j} {k} f g h = omega (arith, f.1, g.2 (omega (arith, f.0)), pow-le-pow_right {n = b} (omega arith) {i = j} {j = k - 1} (omega arith))

  fewest_one : {j k : ℕ} → IsDigitCount b least n j → IsDigitCount b least n k → j ≡ k
  fewest_one {j} {k} f g = go (ltb j k) (ltb k j) refl refl
    where
      go : (s t : Bool) → ltb j k ≡ s → ltb k j ≡ t → j ≡ k
      go true t p q = absurd (not_fewer f g (ltb-true j k p))
      go false true p q = absurd (not_fewer g f (ltb-true k j q))
      go false false p q = omega (arith, ltb-false j k p, ltb-false k j q)

places_fewest : (k n : ℕ) → n < 10 ^ suc k → IsDigitCount 10 1 n (places k n)
unfolding places
places_fewest zero n h = (omega arith, h, λ more. absurd (omega arith))
places_fewest (suc k) n h = go (ltb n (10 ^ suc k)) refl λ low. places_fewest k n low
  where
    go : (t : Bool) → ltb n (10 ^ suc k) ≡ t → (n < 10 ^ suc k → IsDigitCount 10 1 n (places k n)) → IsDigitCount 10 1 n (cond t (places k n) (suc (suc k)))
    go true e rest = rest (ltb-true n (10 ^ suc k) e)
    go false e rest =
        let before : suc (suc k) - 1 ≡ suc k = omega arith in
        (omega arith, h, λ _. rw before (ltb-false n (10 ^ suc k) e))

module _ (n : ℕ) (word : n < 2 ^ 32) where
  pub decimal_places : {k : ℕ} → IsDigitCount 10 1 n k → k ≤ 10
  decimal_places {k} f = omega (arith, places_few 9 n, fewest_one {b = 10} {least = 1} {n = n} (omega arith) f (places_fewest 9 n (omega arith)))

  pub decimal_text : {k : ℕ} {text : List ℕ} → IsDigitCount 10 1 n k → text ≡ last_digits 10 k n → text ≡ decimal_of n
  unfolding decimal_of
  decimal_text {k} f e = e ∙ ap (λ (j : ℕ). last_digits 10 j n) (fewest_one {b = 10} {least = 1} {n = n} (omega arith) f (places_fewest 9 n (omega arith)))

  pub hex_places : {k : ℕ} → IsDigitCount 16 8 n k → k ≡ 8
  hex_places {k} f = fewest_one {b = 16} {least = 8} {n = n} (omega arith) f (omega arith, word, λ h. absurd (omega arith))

  pub hex_text : {k : ℕ} {text : List ℕ} → IsDigitCount 16 8 n k → text ≡ last_digits 16 k n → text ≡ hex_of n
  unfolding hex_of
  hex_text {k} f e = e ∙ ap (λ (j : ℕ). last_digits 16 j n) (hex_places f)

  -- no more than eight, whatever the least number of digits is
  pub hex_few : {w k : ℕ} → w ≤ 8 → IsDigitCount 16 w n k → k ≤ 8
  hex_few {w} {k} least f = go (ltb 8 k) refl
    where
      go : (b : Bool) → ltb 8 k ≡ b → k ≤ 8
      go true e =
          let long : 8 < k = ltb-true 8 k e in
          absurd (omega (arith, f.2 (omega arith), pow-le-pow_right {n = 16} (omega arith) {i = 8} {j = k - 1} (omega arith)))
      go false e = ltb-false 8 k e
