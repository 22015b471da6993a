-- What holds of an image that is not refused, and its number by the numbers 2 to 4. Assumes nothing.
use Rattle.std.specs.Prelude.{ℕ, suc, ◌≤◌, Bool, true, false, cond, ◌||◌, ◌≡◌, refl, ltb}
use Rattle.std.proofs.Common.{le_trans, arith, true≢false}
use Rattle.std.proofs.Math.Path.{subst⁻¹}
use Rattle.std.proofs.lemmas.Bool.{ltb-false, eqb-true, not-false}
use Rattle.bit_matrix.specs.declared.Shape.{Shape}
use Rattle.bit_matrix.specs.Shape.{row_words, shape_of, size}
use Rattle.bit_matrix.specs.ShapeClauses.{Limits}
use Rattle.crop_sizes.specs.Sizes.{outside, misfit, image_refusal}

-- ---- a chain that is 0: none of its conditions holds

pub chain_past : (t : Bool) (n rest : ℕ) → cond t (suc n) rest ≡ 0 → (t ≡ false) × (rest ≡ 0)
chain_past true n rest e = absurd (omega arith)
chain_past false n rest e = (refl, e)

pub both_fail : (a b : Bool) → (a || b) ≡ false → (a ≡ false) × (b ≡ false)
both_fail false b e = (refl, e)
both_fail true b e = absurd (true≢false e)

-- ---- an image

pub rows_of : {shape : Shape} {w h : ℕ} → shape ≡ shape_of w h → shape.row_words ≡ row_words shape.width
rows_of is = subst⁻¹ (λ (s : Shape). s.row_words ≡ row_words s.width) is refl

module _ (least : ℕ) (enough : 33 ≤ least) where
  side : (n : ℕ) → outside least n ≡ false → (33 ≤ n) × (n ≤ 2048)
  side n inside =
      let limits = both_fail (ltb n least) (ltb 2048 n) inside in
      (le_trans enough (ltb-false _ _ limits.0), ltb-false _ _ limits.1)

  -- with its limits, the length needed, no padding bit, and what is lent
  pub image_within : (shape : Shape) (given needed : ℕ) (padded unfit : Bool) → shape.row_words ≡ row_words shape.width
      → image_refusal least shape given needed padded unfit ≡ 0 → Limits shape × (given ≡ needed) × (padded ≡ false) × (unfit ≡ false)
  unfolding image_refusal
  image_within shape given needed padded unfit rows e =
      let size = chain_past _ 1 _ e in
      let large = chain_past _ 2 _ size.1 in
      let long = chain_past _ 3 _ large.1 in
      let clean = chain_past padded 4 _ long.1 in
      let sides = both_fail _ _ size.0 in
      let wide = side shape.width sides.0 in
      let high = side shape.height sides.1 in (
        record {
          rows = rows;
          width_least = wide.0;
          width_most = wide.1;
          height_least = high.0;
          height_most = high.1;
          words_most = ltb-false _ _ large.0;
        },
        eqb-true _ _ (not-false _ long.0),
        clean.0,
        (chain_past unfit 5 _ clean.1).0,
      )

-- ---- the numbers 2 to 4 first, as the code takes them

abbrev by : Bool → Bool → Bool → Bool → Bool → ℕ
by sides large long padded unfit = cond sides 2 (cond large 3 (cond long 4 (cond padded 5 (cond unfit 6 0))))

module _ (padded unfit : Bool) where
  kept : {n : ℕ} (a b c : Bool) → n ≡ by a b c false false → (n ≡ 0 → ⊥) → n ≡ by a b c padded unfit
  kept true b c e some = e
  kept false true c e some = e
  kept false false true e some = e
  kept false false false e some = absurd (some e)

  next : {n r : ℕ} (a b c : Bool) → n ≡ by a b c false false → n ≡ 0 → r ≡ cond padded 5 (cond unfit 6 0) → r ≡ by a b c padded unfit
  next true b c e none same = absurd (omega arith)
  next false true c e none same = absurd (omega arith)
  next false false true e none same = absurd (omega arith)
  next false false false e none same = same

module _ (least : ℕ) (shape : Shape) (given needed : ℕ) (padded unfit : Bool) {n : ℕ} (is : n ≡ image_refusal least shape given needed false false) where
  abbrev sides : Bool
  sides = outside least shape.width || outside least shape.height

  pub size_kept : (n ≡ 0 → ⊥) → n ≡ image_refusal least shape given needed padded unfit
  unfolding image_refusal
  size_kept some = kept padded unfit sides (ltb 8000 (size shape)) (misfit given needed) is some

  pub size_next : {r : ℕ} → n ≡ 0 → r ≡ cond padded 5 (cond unfit 6 0) → r ≡ image_refusal least shape given needed padded unfit
  unfolding image_refusal
  size_next none same = next padded unfit sides (ltb 8000 (size shape)) (misfit given needed) is none same
