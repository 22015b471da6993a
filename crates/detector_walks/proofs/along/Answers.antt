-- `detector_walks::along` meets its contract: the numbers are listed one after another.
use Rattle.std.proofs.Common.{ℕ, ◌+◌, ◌%◌, ◌^◌, ◌≤◌, ◌<◌, Bool, true, false, List, inl, inr, ◌≡◌, refl, sym, ap, ◌∙◌, eq-or-lt_of_le, mod-lt, mod-eq_of_lt, arith, rules, T, lit<, pos, Float, get_or, set, length-set, replicate, get_or-set_same}
use borrow.Author.Rules.{read_below}
use Rattle.std.specs.Float.Ieee.{add, mul, lt}
use Rattle.std.specs.Float.{fin, binary32}
use Rattle.ieee.specs.Sign.{abs}
use Rattle.ieee.specs.BetweenLaws.{Between}
use Rattle.rxing_result_point.specs.Points.{real, past}
use Rattle.detector_walks.specs.WalksClauses.{Along, cell_at, column}
use Rattle.detector_walks.proofs.Level.{size_below}
use Rattle.detector_walks.proofs.along.Goals as goal

low : (n : ℕ) → n % 2 ^ 21 < 2 ^ 21
low n = mod-lt n (lit< tt)

small : (factor : Float) (c place n : ℕ) → Between 0 1 (abs factor) → c < 2 ^ 11 → place < 2 ^ 11
    → T (lt (abs (add binary32 (mul binary32 factor (past c (n % 2 ^ 21))) (real place))) (fin false 1 (pos 22)))
small factor c place n unit left inside = size_below factor c (n % 2 ^ 21) place unit (omega arith) (omega (arith, low n)) (omega arith) 22 (omega arith)

begins : (left : Bool) (factor : Float) (c place x : ℕ) → Along left factor c place x 0 (replicate 32 0)
begins left factor c place x = record { all = refl; at = λ i h. absurd (omega (arith, h)) }

-- no column lies past the remainder's number
few : (left : Bool) (x i : ℕ) → i < 32 → x < 2 ^ 20 + 2 ^ 12 → column left x i < 2 ^ 21
few true x i h low = omega arith
few false x i h low = omega arith

module _ {left : Bool} {factor : Float} {c place x i : ℕ} {cells : List ℕ} (along : Along left factor c place x i cells) where
  onward : {v y : ℕ} → i < 32 → x < 2 ^ 20 + 2 ^ 12 → y ≡ column left x i → v ≡ cell_at factor c place (y % 2 ^ 21)
      → Along left factor c place x (i + 1) (set cells i v)
  onward {v} {y} h low is e = record { all = length-set cells i v ∙ along.all; at = at }
    where
      whole : y % 2 ^ 21 ≡ column left x i
      whole = ap (λ (n : ℕ). n % 2 ^ 21) is ∙ mod-eq_of_lt (few left x i h low)

      here : v ≡ cell_at factor c place (column left x i)
      here = e ∙ ap (cell_at factor c place) whole

      at : (j : ℕ) → j < i + 1 → get_or (set cells i v) j 0 ≡ cell_at factor c place (column left x j)
      at j below = elim (eq-or-lt_of_le {n = j} {m = i} (omega arith)) [
        | inl same ↦ ap (λ (k : ℕ). get_or (set cells i v) k 0) same ∙ get_or-set_same cells i v 0 (omega (arith, along.all)) ∙ here
            ∙ ap (λ (k : ℕ). cell_at factor c place (column left x k)) (sym same)
        | inr lower ↦ read_below ℕ cells i j v 0 (cell_at factor c place (column left x j)) lower (along.at j lower)
      ]

  over : 32 ≤ i → Along left factor c place x 32 cells
  over h = record { all = along.all; at = λ j low. along.at j (omega arith) }

pub abs_small_f32_to_u32-requires : goal.abs_small_f32_to_u32-requires
abs_small_f32_to_u32-requires g c = search small

pub loop-i-preserved : goal.loop-i-preserved
loop-i-preserved g c =
    onward c.loop-i.invariant c.loop-i-test.true c.requires.4 (omega (arith, c.column-at.ensures)) c.abs_small_f32_to_u32.ensures

pub returns : goal.returns
returns g c = search (over, rules)
