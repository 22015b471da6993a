-- `crop_padding::is_words_row_padded` meets its contract.
use Rattle.std.specs.Prelude.{ℕ, ◌+◌, ◌*◌, ◌-◌, ◌/◌, ◌^◌, ◌≤◌, ◌<◌, Bool, true, false, not, List, ◌≡◌, eqb, refl, get_or}
use Rattle.std.proofs.Common.{arith, sym, ap, subst, ◌∙◌, eqb-true, shr-shr}
use Rattle.std.proofs.lemmas.Bool.{eqb-false}
use Rattle.bit_matrix.specs.Shape.{row_words}
use Rattle.crop_padding.specs.Padding.{words_row}
use Rattle.crop_padding.proofs.Padding.{last_word, words_row_clean, words_row_set}
use Rattle.crop_padding.proofs.is_words_row_padded.Goals as goal

-- what the code's two shifts say of the row
module _ (words : List ℕ) (row w y : ℕ) (rows : row ≡ row_words w) (some : 1 ≤ w) (fits : get_or words (y * row + (row - 1)) 0 < 2 ^ 64) where
  abbrev shifted : ℕ → ℕ
  shifted n = get_or words (y * n + (n - 1)) 0 / 2 ^ (w - (n - 1) * 64 - 1) / 2 ^ 1

  shifted_is : shifted row ≡ get_or words (last_word w y) 0 / 2 ^ (w - (row_words w - 1) * 64)
  shifted_is =
      let used : w - (row_words w - 1) * 64 - 1 + 1 ≡ w - (row_words w - 1) * 64 = omega arith in
      ap shifted rows ∙ shr-shr (get_or words (last_word w y) 0) (w - (row_words w - 1) * 64 - 1) 1 ∙ ap (λ (n : ℕ). get_or words (last_word w y) 0 / 2 ^ n) used

  low : get_or words (last_word w y) 0 < 2 ^ 64
  low = subst (λ (n : ℕ). get_or words (y * n + (n - 1)) 0 < 2 ^ 64) rows fits

  tested : not (eqb (shifted row) 0) ≡ words_row words w y
  tested = go (eqb (shifted row) 0) refl
    where
      go : (b : Bool) → eqb (shifted row) 0 ≡ b → not b ≡ words_row words w y
      go true e = sym (words_row_clean words w y some low (sym shifted_is ∙ eqb-true _ _ e))
      go false e = sym (words_row_set words w y some low λ zero. eqb-false _ _ e (shifted_is ∙ zero))

pub returns : goal.returns
returns c = tested _ _ _ _ c.args.image.now.limits.rows (omega (arith, c.args.image.now.limits.width_least)) (omega (arith, c.well_formed))
