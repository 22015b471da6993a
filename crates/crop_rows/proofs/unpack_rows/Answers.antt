-- `crop_rows::unpack_rows` meets its contract.
use Rattle.std.specs.Prelude.{ℕ, ◌+◌, ◌*◌, ◌-◌, ◌/◌, ◌%◌, ◌≤◌, ◌<◌, false, cond, List, ◌++◌, ◌≡◌, refl, min, ltb, length, get_or, set, drop}
use Rattle.std.proofs.Common.{arith, sym, ap, ap₂, ◌∙◌, lt-ltb, le-ltb, length-set, mul_comm}
use Rattle.std.proofs.Math.Arith.{digits_lt}
use Rattle.std.proofs.Math.Decide.{dec_lt}
use Rattle.reads.specs.Bits.{test_bit}
use Rattle.crop_padding.specs.Below.{firsts, number}
use Rattle.crop_padding.specs.AnyLaws.{none_holds}
use Rattle.crop_padding.specs.NumberLaws.{number_lt, number_same, test_number, test_past}
use Rattle.crop_rows.specs.FirstsLaws.{firsts_none, firsts_more, firsts_all}
use Rattle.crop_rows.specs.Bytes.{byte_bit, mirrored}
use Rattle.bit_matrix.specs.declared.Shape.{Shape}
use Rattle.bit_matrix.specs.Shape.{row_words, size}
use Rattle.crop_sizes.specs.Sizes.{row_bytes}
use Rattle.crop_padding.specs.Padding.{file_bit, file_padded, row_padded}
use Rattle.crop_rows.specs.UnpackClauses.{FileAccepted}
use Rattle.crop_rows.specs.Unpack.{pixel_of, word_of, unpacked}
use Rattle.crop_rows.specs.UnpackLaws.{word_at}
use Rattle.crop_rows.proofs.unpack_rows.Invariants.{Storing}
use Rattle.crop_rows.proofs.unpack_rows.Goals as goal

-- bit k of word x lies in the row's bytes before and after its byte is reversed
mirrored_in : (bytes x k : ℕ) → k < 64 → x * 64 + k < 8 * bytes → mirrored k < 8 * min 8 (bytes - 8 * x)
mirrored_in bytes x k h l =
    let byte : k / 8 < min 8 (bytes - 8 * x) = omega arith in
    omega arith

module _ (file : List ℕ) (w h : ℕ) (clean : file_padded file w h ≡ false) (x y : ℕ) (column : x < row_words w) (row : y < h) where
  -- a bit of the row's bytes is the column's pixel, also in the padding
  bit_is : (c : ℕ) → c < 8 * row_bytes w → file_bit file w c y ≡ pixel_of file w c y
  unfolding pixel_of row_padded
  bit_is c inside = go (dec_lt c w)
    where
      go : Dec (c < w) → file_bit file w c y ≡ cond (ltb c w) (file_bit file w c y) false
      go (yes l) = rw lt-ltb refl
      go (no l) =
          let place : w + (c - w) ≡ c = omega arith in
          let past : w ≤ c = omega arith in
          rw le-ltb
          (ap (λ (n : ℕ). file_bit file w n y) (sym place)
          ∙ none_holds (λ k. file_bit file w (w + k) y) (8 * row_bytes w - w)
          (none_holds (row_padded (file_bit file w) w (8 * row_bytes w)) h clean row) (omega arith))

  -- the bytes of word x, each reversed, are that word
  module _ {loaded : ℕ} (is : loaded ≡ number (byte_bit file (4 + y * row_bytes w + 8 * x)) (8 * min 8 (row_bytes w - 8 * x))) where
    reversed_bit : (k : ℕ) → k < 64 → test_bit loaded (mirrored k) ≡ pixel_of file w (x * 64 + k) y
    unfolding pixel_of
    reversed_bit k h = go (dec_lt (x * 64 + k) (8 * row_bytes w))
      where
        go : Dec (x * 64 + k < 8 * row_bytes w) → test_bit loaded (mirrored k) ≡ pixel_of file w (x * 64 + k) y
        go (yes l) =
            let byte : 4 + y * row_bytes w + 8 * x + mirrored k / 8 ≡ 4 + y * row_bytes w + (x * 64 + k) / 8 = omega arith in
            let place : mirrored k % 8 ≡ 7 - (x * 64 + k) % 8 = omega arith in
            ap (λ (n : ℕ). test_bit n (mirrored k)) is
            ∙ test_number (byte_bit file (4 + y * row_bytes w + 8 * x)) (8 * min 8 (row_bytes w - 8 * x)) (mirrored k) (mirrored_in (row_bytes w) x k h l)
            ∙ ap₂ (λ (q r : ℕ). test_bit (get_or file q 0) r) byte place ∙ bit_is (x * 64 + k) l
        go (no l) =
            let past : w ≤ x * 64 + k = omega arith in
            test_past (8 * min 8 (row_bytes w - 8 * x)) (rw is (number_lt _ _)) (omega arith) ∙ sym (rw le-ltb refl)

    word_is : number (λ k. test_bit loaded (mirrored k)) 64 ≡ word_of file w (y * row_words w + x)
    word_is = number_same (λ k. test_bit loaded (mirrored k)) (λ k. pixel_of file w (x * 64 + k) y) 64 reversed_bit ∙ sym (word_at file w h x y column)

module _ {file : List ℕ} (words₀ : List ℕ) {shape : Shape} (ok : FileAccepted shape file) (fits : length words₀ ≡ size shape) where
  begins : Storing file words₀ shape.width words₀ (0 * shape.row_words)
  begins =
      let none : 0 ≡ 0 * shape.row_words = omega arith in
      record { stored = firsts_none (word_of file shape.width) words₀ ∙ ap (λ (n : ℕ). firsts (word_of file shape.width) n ++ drop n words₀) none; sized = refl }

  module _ {y : ℕ} (row : y < shape.height) where
    module _ {x : ℕ} (column : x < shape.row_words) where
      place_inside : y * shape.row_words + x < size shape
      place_inside = omega (arith, digits_lt {r = x} {c = shape.row_words} row column)

  module _ {words : List ℕ} where
    moved : {i j : ℕ} → Storing file words₀ shape.width words i → i ≡ j → Storing file words₀ shape.width words j
    moved storing e = record { stored = storing.stored ∙ ap (λ (n : ℕ). firsts (word_of file shape.width) n ++ drop n words₀) e; sized = storing.sized }

    at_end : Storing file words₀ shape.width words (shape.height * shape.row_words) → words ≡ unpacked file shape
    at_end storing =
        let all : shape.height * shape.row_words ≡ size shape = mul_comm _ _ in
        storing.stored ∙ firsts_all (word_of file shape.width) words₀ (omega (arith, fits, all)) ∙ ap (firsts (word_of file shape.width)) all

    module _ {x y : ℕ} (row : y < shape.height) (column : x < shape.row_words) where
      -- one word more is stored
      more : Storing file words₀ shape.width words (y * shape.row_words + x) → {loaded word : ℕ}
          → loaded ≡ number (byte_bit file (4 + y * row_bytes shape.width + 8 * x)) (8 * min 8 (row_bytes shape.width - 8 * x))
          → word ≡ number (λ k. test_bit loaded (mirrored k)) 64
          → Storing file words₀ shape.width (set words (y * shape.row_words + x) word) (y * shape.row_words + (x + 1))
      more storing {loaded} {word} is reversed =
          let rows : shape.row_words ≡ row_words shape.width = ok.limits.rows in
          let place : y * row_words shape.width + x ≡ y * shape.row_words + x = ap (λ (n : ℕ). y * n + x) (sym rows) in
          let next : y * shape.row_words + x + 1 ≡ y * shape.row_words + (x + 1) = omega arith in
          record {
            stored =
                ap (λ (d : List ℕ). set d (y * shape.row_words + x) word) storing.stored
                ∙ firsts_more (word_of file shape.width) words₀ (y * shape.row_words + x) (omega (arith, fits, place_inside row column))
                (reversed ∙ word_is file shape.width shape.height ok.clean x y (omega (arith, rows)) row is ∙ ap (word_of file shape.width) place)
                ∙ ap (λ (n : ℕ). firsts (word_of file shape.width) n ++ drop n words₀) next;
            sized = simp length-set storing.sized;
          }

pub loop-y-init : goal.loop-y-init
loop-y-init c = search begins

pub loop-x-preserved : goal.loop-x-preserved
loop-x-preserved c = more c.args.words.now c.requires.0 c.requires.1 c.loop-y-test.true c.loop-x-test.true c.loop-x.invariant c.load.ensures c.reverse.ensures

pub returns : goal.returns
returns c =
    let all : c.loop-y.y ≡ c.args.shape.height = omega arith in
    at_end c.args.words.now c.requires.0 c.requires.1
    (moved c.args.words.now c.requires.0 c.requires.1 c.loop-y.invariant (ap (λ (n : ℕ). n * c.args.shape.row_words) all))
