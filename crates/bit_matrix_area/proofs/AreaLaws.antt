-- What holds of counts: over two lists in a row, at most the pixels counted, and none at the first pixel outside. Assumes nothing.
use Rattle.std.proofs.Common.{Bool, Option, None, Some, ℕ, zero, suc, ◌+◌, ◌-◌, ◌*◌, ◌≤◌, ◌<◌, List, [], ◌∷◌, ◌++◌, ◌⊎◌, inl, inr, ◌≡◌, refl, sym, ap, ◌∙◌, arith, length, length-append}
use Rattle.std.specs.Option.{option_map_or, unwrap_or}
use mathlib.Core.List.{flat_map}
use Rattle.std.proofs.lemmas.List.{length-map}
use Rattle.std.proofs.Math.Path.{fun_ext}
use Rattle.reads.specs.Reads.{Reads, done, ◌>>=◌}
use Rattle.reads.specs.ReadsLaws.{Always}
use Rattle.reads.proofs.ReadsLaws.{bind_assoc, always_done, always_after}
use Rattle.reads.specs.Bits.{digit, range}
use Rattle.reads.proofs.BitsLaws.{digit_low, length_range}
use Rattle.reads.specs.RunsClauses.{Ran}
use Rattle.reads.proofs.RunsLaws.{ran_done, ran_bind, always_ran}
use Rattle.bit_matrix.specs.declared.Shape.{Shape}
use Rattle.bit_matrix.specs.Pixels.{try_get}
use Rattle.bit_matrix.specs.PixelsLaws.{ran_outside}
use Rattle.bit_matrix_area.specs.Area.{Cell, column, box, count_black, try_get_area}

-- ---- how many pixels

pub length_column : (x from to : ℕ) → length (column x from to) ≡ to - from
length_column x from to = length-map (range from (to - from)) (λ (y : ℕ). (x, y)) ∙ length_range from (to - from)

length_columns : (from to n x : ℕ) → length (flat_map (λ (x : ℕ). column x from to) (range x n)) ≡ n * (to - from)
unfolding range flat_map
length_columns from to zero x = omega arith
length_columns from to (suc n) x =
    length-append (column x from to) _ ∙ omega (arith, length_column x from to, length_columns from to n (x + 1))

pub length_box : (left right from to : ℕ) → length (box left right from to) ≡ (right - left) * (to - from)
length_box left right from to = length_columns from to (right - left) left

-- a count is at most `most`
pub record Few (most : ℕ) (counted : Option ℕ) : Type 0 where
  pub few : unwrap_or counted 0 ≤ most

module _ (shape : Shape) where
  -- ---- two lists in a row

  pub count_append : (cells more : List Cell) (n : ℕ)
      → count_black shape (cells ++ more) n
      ≡ count_black shape cells n >>= λ counted. option_map_or (count_black shape more) counted (done None)
  unfolding count_black ◌>>=◌
  count_append [] more n = refl
  count_append (cell ∷ cells) more n =
      ap (λ (k : Option Bool → Reads (Option ℕ)). try_get shape cell.0 cell.1 >>= k) (fun_ext (next λ m. count_append cells more m))
      ∙ sym (bind_assoc (try_get shape cell.0 cell.1) _ _)
    where
      next : ((m : ℕ) → count_black shape (cells ++ more) m
          ≡ count_black shape cells m >>= λ counted. option_map_or (count_black shape more) counted (done None))
          → (sample : Option Bool)
          → option_map_or (λ black. count_black shape (cells ++ more) (n + digit black)) sample (done None)
          ≡ option_map_or (λ black. count_black shape cells (n + digit black)) sample (done None)
          >>= λ counted. option_map_or (count_black shape more) counted (done None)
      next rest None = refl
      next rest (Some black) = rest (n + digit black)

  -- ---- at most the pixels

  count_few : (cells : List Cell) (n most : ℕ) → n + length cells ≤ most → Always (Few most) (count_black shape cells n)
  unfolding count_black
  count_few [] n most h = always_done (record { few = omega arith })
  count_few (cell ∷ cells) n most h = always_after _ _ (next λ k room. count_few cells k most room)
    where
      next : ((k : ℕ) → k + length cells ≤ most → Always (Few most) (count_black shape cells k)) → (sample : Option Bool)
          → Always (Few most) (option_map_or (λ black. count_black shape cells (n + digit black)) sample (done None))
      next rest None = always_done (record { few = omega arith })
      next rest (Some black) = rest (n + digit black) (omega (arith, digit_low black))

  -- a run's count, beside the `n` counted before
  pub ran_few : (cells : List Cell) (n : ℕ) {words m₀ m₁ : List ℕ} {counted : Option ℕ}
      → Ran (count_black shape cells n) words m₀ counted m₁ → Few (n + length cells) counted
  ran_few cells n ran = always_ran (count_few cells n (n + length cells) (omega arith)) ran

  -- ---- the first pixel is outside

  module _ {words marks : List ℕ} where
    column_outside : (x from to n : ℕ) (more : List Cell) → to - from ≡ suc n → (shape.width ≤ x) ⊎ (shape.height ≤ from)
        → Ran (count_black shape (column x from to ++ more) 0) words marks None marks
    unfolding range count_black
    column_outside x from to n more e h = rw e (ran_bind _ (ran_outside shape x from h) (ran_done _))

    box_outside : (left right from to n k : ℕ) → right - left ≡ suc n → to - from ≡ suc k → (shape.width ≤ left) ⊎ (shape.height ≤ from)
        → Ran (count_black shape (box left right from to) 0) words marks None marks
    unfolding range flat_map
    box_outside left right from to n k e f h = rw e (column_outside left from to k _ f h)

    -- past the width or height an area is outside, with nothing read
    pub area_outside : (x y : ℕ) → (shape.width < x) ⊎ (shape.height < y) → Ran (try_get_area shape x y) words marks None marks
    unfolding try_get_area
    area_outside x y h =
        ran_bind _ (box_outside (x - 1) (x + 2) (y - 1) (y + 2) (x + 1 - (x - 1)) (y + 1 - (y - 1)) (omega arith) (omega arith) (go h)) (ran_done _)
      where
        go : (shape.width < x) ⊎ (shape.height < y) → (shape.width ≤ x - 1) ⊎ (shape.height ≤ y - 1)
        go (inl l) = inl (omega arith)
        go (inr l) = inr (omega arith)
