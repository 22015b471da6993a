-- A file that is longer than any accepted one has the number of its start, so that a reader may stop there. Assumes nothing.
use Rattle.std.specs.Prelude.{ℕ, ◌*◌, ◌/◌, ◌%◌, ◌^◌, ◌≤◌, ◌<◌, Bool, not, cond, ◌||◌, List, ◌≡◌, eqb, length, take}
use Rattle.std.proofs.Common.{mul_assoc, mul-le-mul_right, arith, ap, ap₂, ◌∙◌, ltb-false, le-ltb, ne_eqb, length-take-le, get_or-take}
use Rattle.std.proofs.Math.Bool.{true, false}
use Rattle.std.proofs.Math.Path.{refl}
use Rattle.std.proofs.Math.Dec.{ltb}
use Rattle.bit_matrix.specs.Shape.{row_words, shape_of, size}
use Rattle.crop_sizes.specs.Sizes.{row_bytes, file_length, outside, misfit, image_refusal}
use Rattle.crop_padding.specs.Padding.{file_padded}
use Rattle.crop.specs.Crop.{header, width, height, refusal_of}

-- no accepted file has more than 64,004 bytes
too_long : (w h : ℕ) {n : ℕ} → 64004 < n → ltb 8000 (size (shape_of w h)) ≡ false → misfit n (file_length w h) ≡ true
too_long w h {n} long large =
    let most : size (shape_of w h) ≤ 8000 = ltb-false _ _ large in
    let bytes : row_bytes w * h ≤ 8 * row_words w * h = mul-le-mul_right {m = row_bytes w} {n = 8 * row_words w} h (omega arith) in
    let rows : row_bytes w * h ≤ 8 * size (shape_of w h) = omega (arith, mul_assoc 8 (row_words w) h) in
    ap not (ne_eqb n (file_length w h) λ e. omega arith)

-- a file's number by its header's, its length, and whether a padding bit is 1
abbrev numbered : ℕ → ℕ → ℕ → ℕ → Bool → ℕ
numbered k least head n padded =
    let w : ℕ = head / 2 ^ 16 % 2 ^ 12 in
    let h : ℕ = head / 2 ^ 4 % 2 ^ 12 in
    cond (ltb n 4 || not (eqb (head / 2 ^ 28) k) || not (eqb (head % 2 ^ 4) 0)) 1 (image_refusal least (shape_of w h) n (file_length w h) padded false)

-- a number by what is true of an image
abbrev by : Bool → Bool → Bool → Bool → ℕ
by sides large long padded = cond sides 2 (cond large 3 (cond long 4 (cond padded 5 0)))

module _ (k least m n : ℕ) (p q : Bool) (m_long : 64004 < m) (n_long : 64004 < n) where
  -- two long images of one size
  image_same : (w h : ℕ) → image_refusal least (shape_of w h) m (file_length w h) p false ≡ image_refusal least (shape_of w h) n (file_length w h) q false
  unfolding image_refusal
  image_same w h = go (outside least w || outside least h) (ltb 8000 (size (shape_of w h))) refl
    where
      go : (a b : Bool) → ltb 8000 (size (shape_of w h)) ≡ b → by a b (misfit m (file_length w h)) p ≡ by a b (misfit n (file_length w h)) q
      go true b e = refl
      go false true e = refl
      go false false e = rw (too_long w h m_long e, too_long w h n_long e) refl

  -- two long files with one header
  file_same : (head : ℕ) → numbered k least head m p ≡ numbered k least head n q
  file_same head =
      rw (le-ltb m 4 (omega arith), le-ltb n 4 (omega arith))
      (ap (λ (r : ℕ). cond (not (eqb (head / 2 ^ 28) k) || not (eqb (head % 2 ^ 4) 0)) 1 r) (image_same (head / 2 ^ 16 % 2 ^ 12) (head / 2 ^ 4 % 2 ^ 12)))

header_same : (file : List ℕ) (n : ℕ) → 4 ≤ n → header (take n file) ≡ header file
unfolding header
header_same file n h =
    rw (get_or-take n file 0 0 (omega arith), get_or-take n file 1 0 (omega arith), get_or-take n file 2 0 (omega arith), get_or-take n file 3 0 (omega arith)) refl

pub refusal_prefix : (k least : ℕ) (file : List ℕ) (n : ℕ) → 64004 < n → n ≤ length file → refusal_of k least (take n file) false ≡ refusal_of k least file false
unfolding refusal_of
refusal_prefix k least file n long inside =
    ap₂ (λ (head d : ℕ). numbered k least head d padded) (header_same file n (omega arith)) (length-take-le n file inside)
    ∙ file_same k least n (length file) padded whole long (omega arith) (header file)
  where
    padded : Bool
    padded = file_padded (take n file) (width (take n file)) (height (take n file))

    whole : Bool
    whole = file_padded file (width file) (height file)
