-- `bit_matrix_rectangle::get_enclosing_rectangle` meets its contract: the first and the last word that is not 0 lie in the first and the last row with a
-- black pixel.
use Rattle.std.proofs.Common.{ne_of_lt, ℕ, suc, ◌+◌, ◌*◌, ◌-◌, ◌/◌, ◌%◌, ◌^◌, ◌≤◌, ◌<◌, mod-lt, div-add-mod', div-mul-le_self, div-lt_iff_lt-mul, mul-le-mul_right, arith, Bool, true, false, cond, List, ◌≡◌, refl, sym, ap, ◌∙◌, subst, length, get_or}
use Rattle.std.proofs.Math.Arith.{digits_lt}
use Rattle.reads.specs.Bits.{test_bit}
use Rattle.reads.proofs.BitsLaws.{test_zero}
use Rattle.bit_matrix.specs.declared.Shape.{Shape}
use Rattle.crop_padding.specs.Below.{any_below}
use Rattle.crop_padding.specs.AnyLaws.{any_found, any_witness, none_below}
use Rattle.std.specs.Prelude.{Some, None}
use Rattle.bit_matrix_rectangle.specs.Rectangle.{black_at, least_below, greatest_below, black_column, black_row, rectangle_of, enclosing_rectangle}
use Rattle.bit_matrix_rectangle.specs.RectangleClauses.{ImageAccepted, Rows, is_set}
use Rattle.bit_matrix_rectangle.specs.ExtremesLaws.{least_before, greatest_after, greatest_lt}
use Rattle.bit_matrix_rectangle.specs.RectangleLaws.{pixel_row_lem, pixel_column_lem}
use Rattle.bit_matrix_rectangle.proofs.Extremes.{least_is, least_here, least_most, greatest_is, greatest_here, least_greatest}
use Rattle.bit_matrix_rectangle.proofs.Words.{highest, black_word, column_inside, set_some, clear_none}
use Rattle.bit_matrix_rectangle.proofs.get_enclosing_rectangle.Goals.{After-right-right}
use Rattle.bit_matrix_rectangle.proofs.get_enclosing_rectangle.Goals as goal

module _ (shape : Shape) (words : List ℕ) (ok : ImageAccepted shape words) where
  abbrev black : ℕ → ℕ → Bool
  black = black_at shape words

  -- ---- the row of a word

  row_below : (i : ℕ) → i < length words → i / shape.row_words < shape.height
  row_below i stored =
      let some : 0 < shape.row_words = omega (arith, ok.limits.rows, ok.limits.width_least) in
      let all : i < shape.height * shape.row_words = omega (arith, ok.stored) in
      (div-lt_iff_lt-mul some).1 all

  -- a word that is not 0 lies in a row with a black pixel
  word_row : (i : ℕ) → i < length words → (get_or words i 0 ≡ 0 → ⊥) → get_or words i 0 < 2 ^ 64
      → black_row black shape.width (i / shape.row_words) ≡ true
  word_row i stored some fits =
      let row : ℕ = shape.row_words in
      let last = highest (get_or words i 0) some fits in
      let low : last.0 < 64 = omega (arith, last.1) in
      let below : i % row < row = mod-lt i (omega (arith, ok.limits.rows, ok.limits.width_least)) in
      let place : i / row * row + i % row ≡ i = div-add-mod' i row in
      let set : black (i % row * 64 + last.0) (i / row) ≡ true =
      black_word ok (i % row) last.0 (i / row) low ∙ ap (λ (n : ℕ). test_bit (get_or words n 0) last.0) place ∙ last.2 in
      let inside : i % row * 64 + last.0 < shape.width =
      column_inside ok (i % row * 64 + last.0) (omega arith)
      (pixel_column_lem black shape.width shape.height (i % row * 64 + last.0) (i / row) (row_below i stored) set) in
      pixel_row_lem black shape.width shape.height (i % row * 64 + last.0) (i / row) inside set

  -- a row of words that are 0 has none
  pixel_white : (y : ℕ) → ((q : ℕ) → q < shape.row_words → get_or words (y * shape.row_words + q) 0 ≡ 0) → (x : ℕ) → x < 64 * shape.row_words
      → black x y ≡ false
  pixel_white y clear x column =
      let place : x / 64 * 64 + x % 64 ≡ x = omega arith in
      ap (λ (n : ℕ). black n y) (sym place) ∙ black_word ok (x / 64) (x % 64) y (omega arith)
      ∙ ap (λ (n : ℕ). test_bit n (x % 64)) (clear (x / 64) (omega arith)) ∙ test_zero (x % 64)

  row_white : (y : ℕ) → ((q : ℕ) → q < shape.row_words → get_or words (y * shape.row_words + q) 0 ≡ 0) → black_row black shape.width y ≡ false
  row_white y clear = none_below (λ x. black x y) shape.width λ x column. pixel_white y clear x (omega (arith, ok.limits.rows))

  module _ {first : ℕ} (is : first ≡ least_below (is_set words) (length words)) where
    before : (i : ℕ) → i < first → get_or words i 0 ≡ 0
    before i h = clear_none words i (least_before (is_set words) (length words) (subst (λ (n : ℕ). i < n) is h))

    blank : first ≡ length words → None ≡ enclosing_rectangle black shape.width shape.height
    unfolding enclosing_rectangle
    blank all =
        sym
        (ap (λ (b : Bool). cond b (Some (rectangle_of black shape.width shape.height)) None)
        (none_below (black_row black shape.width) shape.height λ y row.
        row_white y λ q column. before _ (omega (arith, ok.stored, digits_lt {r = q} {c = shape.row_words} row column))))

    module _ (some : first ≡ length words → ⊥) (fits : (i : ℕ) → get_or words i 0 < 2 ^ 64) where
      stored : first < length words
      stored = omega (arith, is, least_most (is_set words) (length words), some)

      set : is_set words first ≡ true
      set = ap (is_set words) is ∙ least_here (is_set words) (length words) (subst (λ (n : ℕ). n < length words) is stored)

      black_row_lem : black_row black shape.width (first / shape.row_words) ≡ true
      black_row_lem = word_row first stored (set_some words first set) (fits first)

      -- the first row, and the last
      above : (y : ℕ) → y < first / shape.row_words → (q : ℕ) → q < shape.row_words → get_or words (y * shape.row_words + q) 0 ≡ 0
      above y h q column =
          before _
          (omega (arith, mul-le-mul_right {m = suc y} {n = first / shape.row_words} shape.row_words h, div-mul-le_self first shape.row_words))

      top_is : first / shape.row_words ≡ least_below (black_row black shape.width) shape.height
      top_is =
          least_is (black_row black shape.width) shape.height (first / shape.row_words) (omega (arith, row_below first stored))
          (λ y h. row_white y (above y h)) (λ h. black_row_lem)

      module _ {last : ℕ} (last_is : last ≡ greatest_below (is_set words) (length words)) where
        last_stored : last < length words
        last_stored = omega (arith, last_is, greatest_lt (is_set words) (length words) (omega (arith, stored)))

        last_set : is_set words last ≡ true
        last_set = ap (is_set words) last_is ∙ greatest_here (is_set words) (length words) stored set

        below : (y : ℕ) → last / shape.row_words < y → y < shape.height → (q : ℕ) → q < shape.row_words → get_or words (y * shape.row_words + q) 0 ≡ 0
        below y h row q column =
            let some : 0 < shape.row_words = omega (arith, ok.limits.rows, ok.limits.width_least) in
            let past : last < y * shape.row_words = (div-lt_iff_lt-mul some).0 h in
            clear_none words (y * shape.row_words + q)
            (greatest_after (is_set words) (length words) (subst (λ (n : ℕ). n < y * shape.row_words + q) last_is (omega arith))
            (omega (arith, ok.stored, digits_lt {r = q} {c = shape.row_words} row column)))

        bottom_is : last / shape.row_words ≡ greatest_below (black_row black shape.width) shape.height
        bottom_is =
            greatest_is (black_row black shape.width) shape.height (row_below last last_stored)
            (word_row last last_stored (set_some words last last_set) (fits last)) (λ y h row. row_white y (below y h row))

        rows_of : Rows shape words (first / shape.row_words) (last / shape.row_words)
        rows_of = record {
          order = omega (arith, top_is, bottom_is, least_greatest (black_row black shape.width) shape.height (row_below first stored) black_row_lem);
          most = row_below last last_stored;
          above = λ x y column h. pixel_white y (above y h) x column;
          below = λ x y column h row. pixel_white y (below y h row) x column;
        }

      -- the first column is not past the last
      columns_in_order : least_below (black_column black shape.height) shape.width ≤ greatest_below (black_column black shape.height) shape.width
      columns_in_order =
          let pixel = any_witness (λ x. black x (first / shape.row_words)) shape.width black_row_lem in
          least_greatest (black_column black shape.height) shape.width pixel.1
          (pixel_column_lem black shape.width shape.height pixel.0 (first / shape.row_words) (row_below first stored) pixel.2)

      module _ {last l r : ℕ} (last_is : last ≡ greatest_below (is_set words) (length words))
          (left_is : l ≡ least_below (black_column black shape.height) shape.width)
          (right_is : r ≡ greatest_below (black_column black shape.height) shape.width) where
        ordered : (l ≤ r) × (r < shape.width)
        ordered = (
          omega (arith, left_is, right_is, columns_in_order),
          omega (arith, right_is, greatest_lt (black_column black shape.height) shape.width (omega (arith, ok.limits.width_least))),
        )

        enclosed : Some (record {
          left = l;
          top = first / shape.row_words;
          width = r - l + 1;
          height = last / shape.row_words - first / shape.row_words + 1;
        })
            ≡ enclosing_rectangle black shape.width shape.height
        unfolding enclosing_rectangle
        enclosed =
            let some_row : any_below (black_row black shape.width) shape.height ≡ true =
            any_found (black_row black shape.width) shape.height (row_below first stored) black_row_lem in
            rw (left_is, right_is, top_is, bottom_is last_is, some_row) refl

-- the first row and the last, and then the columns from the first to the last
rows_lem : (shape : Shape) (words : List ℕ) → ImageAccepted shape words → {first last : ℕ}
    → (first ≡ least_below (is_set words) (length words)) × (first < length words) → ((i : ℕ) → get_or words i 0 < 2 ^ 64)
    → last ≡ greatest_below (is_set words) (length words) → Rows shape words (first / shape.row_words) (last / shape.row_words)
rows_lem shape words ok top fits bottom = rows_of shape words ok top.0 (ne_of_lt top.1) fits bottom

columns_at : (c : After-right-right) → (c.left-left.result ≤ c.right-right.result) × (c.right-right.result < c.args.image.now.shape.width)
columns_at c =
    let top = c.in_ok-top.ensures.first in
    ordered c.args.image.now.shape c.args.image.now.words.now c.requires top.0 (ne_of_lt top.1) c.first_set.ensures.fits c.in_ok-bottom.ensures
    c.left-left.ensures c.right-right.ensures

pub returns-in_err-top : goal.returns-in_err-top
returns-in_err-top c = c.from_residual.ensures ∙ blank c.args.image.now.shape c.args.image.now.words.now c.requires (sym c.in_err-top.ensures.first) refl

pub returns-in_err-bottom : goal.returns-in_err-bottom
returns-in_err-bottom c =
    c.from_residual-in_err-bottom.ensures ∙ blank c.args.image.now.shape c.args.image.now.words.now c.requires (sym c.in_err-bottom.ensures) refl

pub invariant_of-rows : goal.invariant_of-rows
invariant_of-rows c = record {
  accepted = c.requires;
  rows = rows_lem c.args.image.now.shape c.args.image.now.words.now c.requires c.in_ok-top.ensures.first c.first_set.ensures.fits c.in_ok-bottom.ensures;
}

pub overflow_cast-result : goal.overflow_cast-result
overflow_cast-result c = omega (arith, rows_lem c.args.image.now.shape c.args.image.now.words.now c.requires c.in_ok-top.ensures.first c.first_set.ensures.fits c.in_ok-bottom.ensures)

pub overflow_sub-result : goal.overflow_sub-result
overflow_sub-result c = omega (arith, columns_at c)

pub overflow_add-result : goal.overflow_add-result
overflow_add-result c = omega (arith, columns_at c)

pub overflow_sub-result-2 : goal.overflow_sub-result-2
overflow_sub-result-2 c = omega (arith, rows_lem c.args.image.now.shape c.args.image.now.words.now c.requires c.in_ok-top.ensures.first c.first_set.ensures.fits c.in_ok-bottom.ensures)

pub overflow_add-result-2 : goal.overflow_add-result-2
overflow_add-result-2 c = omega (arith, rows_lem c.args.image.now.shape c.args.image.now.words.now c.requires c.in_ok-top.ensures.first c.first_set.ensures.fits c.in_ok-bottom.ensures)

pub overflow_cast-result-2 : goal.overflow_cast-result-2
overflow_cast-result-2 c = omega (arith, rows_lem c.args.image.now.shape c.args.image.now.words.now c.requires c.in_ok-top.ensures.first c.first_set.ensures.fits c.in_ok-bottom.ensures)

pub returns : goal.returns
returns c =
    let top = c.in_ok-top.ensures.first in
    enclosed c.args.image.now.shape c.args.image.now.words.now c.requires top.0 (ne_of_lt top.1) c.first_set.ensures.fits c.in_ok-bottom.ensures
    c.left-left.ensures c.right-right.ensures
