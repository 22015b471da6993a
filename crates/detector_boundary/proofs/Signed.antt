-- Signed arithmetic brought to the naturals, where `omega` reads it.
-- A signed local holds bits; `read z` is what the machine reads back, and is z since z fits. Assumes nothing.
use Rattle.std.proofs.Common.{◌≡◌, ℕ, zero, suc, ◌+◌, ◌-◌, ◌/◌, ◌<◌, ◌≤◌, Bool, cond, ℤ, pos, negsuc, ◌+ℤ◌, ◌-ℤ◌, sym, ap, ◌∙◌, subst, ap₂, arith, w32, SFits, to_z, of_z, le-ltb, lt-ltb}
use Rattle.std.proofs.lemmas.Int.{to_z-of_z, to_z_pos}
use Rattle.std.proofs.Math.IntN.{sub_ℕ}
use Rattle.std.proofs.Math.Decide.{dec_lt}
use lib.Signed.{mag, quot_z}

abbrev pub read : ℤ → ℤ
read z = to_z w32 (of_z w32 z)

-- ---- sums and differences of a coordinate and a shift
pub natural_read : (n : ℕ) {v : ℤ} → n ≤ 32768 → v ≡ pos n → read v ≡ pos n
natural_read n few e = ap read e ∙ to_z_pos w32 n (omega arith)

pub half_is : (n : ℕ) → n ≤ 32768 → quot_z (to_z w32 n) (pos 2) ≡ pos (n / 2)
half_is n few = ap (λ (v : ℤ). quot_z v (pos 2)) (to_z_pos w32 n (omega arith))

mag_sub : (c n : ℕ) → mag (sub_ℕ c n) ≤ c + n
mag_sub c n = go (dec_lt c n)
  where
    go : Dec (c < n) → mag (sub_ℕ c n) ≤ c + n
    go (yes h) = rw (lt-ltb c n h) (omega arith)
    go (no h) = rw (le-ltb c n (omega arith)) (omega arith)

difference_fits : (c n : ℕ) → c ≤ 2048 → n ≤ 32768 → SFits w32 (pos c -ℤ pos n)
difference_fits c zero small few = record { sfits = omega arith }
difference_fits c (suc n) small few = record { sfits = omega (arith, mag_sub c (suc n)) }

module _ (c n : ℕ) (v : ℤ) (small : c ≤ 2048) (few : n ≤ 32768) (e : read v ≡ pos n) where
  less_is : to_z w32 c -ℤ read v ≡ pos c -ℤ pos n
  less_is = ap₂ ◌-ℤ◌ (to_z_pos w32 c (omega arith)) e

  more_is : to_z w32 c +ℤ read v ≡ pos c +ℤ pos n
  more_is = ap₂ ◌+ℤ◌ (to_z_pos w32 c (omega arith)) e

  pub less_fits : SFits w32 (to_z w32 c -ℤ read v)
  less_fits = subst (SFits w32) (sym less_is) (difference_fits c n small few)

  pub more_fits : SFits w32 (to_z w32 c +ℤ read v)
  more_fits = subst (SFits w32) (sym more_is) (record { sfits = omega arith })

  pub less_read : read (to_z w32 c -ℤ read v) ≡ pos c -ℤ pos n
  less_read = to_z-of_z w32 _ less_fits ∙ less_is

  pub more_read : read (to_z w32 c +ℤ read v) ≡ pos c +ℤ pos n
  more_read = to_z-of_z w32 _ more_fits ∙ more_is

-- ---- an image's size less a margin
margin_is : (size m : ℕ) → m ≤ size → size ≤ 2048 → to_z w32 size -ℤ pos m ≡ pos (size - m)
margin_is size zero room small =
    let same : size + zero ≡ size - zero = omega arith in
    ap (λ (v : ℤ). v -ℤ pos zero) (to_z_pos w32 size (omega arith)) ∙ ap pos same
margin_is size (suc k) room small =
    ap (λ (v : ℤ). v -ℤ pos (suc k)) (to_z_pos w32 size (omega arith))
    ∙ ap (λ (b : Bool). cond b (negsuc (suc k - suc size)) (pos (size - suc k))) (le-ltb size (suc k) room)

-- of an image's limits, with a margin of at most 33
module _ (size m : ℕ) (few : m ≤ 33) (least : 33 ≤ size) (small : size ≤ 2048) where
  room : m ≤ size
  room = omega arith

  pub margin_fits : SFits w32 (to_z w32 size -ℤ pos m)
  margin_fits = subst (SFits w32) (sym (margin_is size m room small)) (record { sfits = omega arith })

  pub margin_read : read (to_z w32 size -ℤ pos m) ≡ pos (size - m)
  margin_read = to_z-of_z w32 _ margin_fits ∙ margin_is size m room small
