-- What holds of files and images in words that are not refused, 6 after the other numbers, and the numbers of a file that was checked. Assumes nothing.
use Rattle.std.specs.Prelude.{ℕ, ◌≤◌, Bool, ◌||◌, List, Result, Ok, Err, IfOk, ◌≡◌, ltb, length}
use Rattle.std.proofs.Common.{arith, ◌∙◌, ltb-false, eqb-true, eq-eqb, ne_eqb}
use Rattle.std.proofs.Math.Bool.{true, false, cond}
use Rattle.std.proofs.Math.Path.{refl, sym, ap, subst, subst⁻¹}
use Rattle.std.proofs.lemmas.Bool.{eqb-false, not-false}
use Rattle.std.proofs.Math.Dec.{eqb}
use Rattle.bit_matrix.specs.declared.Shape.{Shape}
use Rattle.bit_matrix.specs.Shape.{row_words, shape_of, size}
use Rattle.bit_matrix.specs.ShapeClauses.{Limits}
use Rattle.crop_sizes.specs.declared.Refusal.{Refusal}
use Rattle.crop_sizes.specs.Refusals.{number_some}
use Rattle.crop_sizes.specs.ChainLaws.{chain_here, chain_next, chain}
use Rattle.crop_sizes.specs.Sizes.{file_length, least_side, outside, misfit, image_refusal}
use Rattle.crop_sizes.specs.SizesLaws.{chain_past, both_fail, rows_of, image_within}
use Rattle.crop_padding.specs.Padding.{file_padded, words_padded}
use Rattle.crop_rows.specs.Unpack.{unpacked}
use Rattle.crop_rows.specs.UnpackClauses.{FileAccepted}
use Rattle.crop_rows.specs.UnpackLaws.{length_unpacked, unpacked_clean}
use Rattle.crop.specs.Crop.{
  file_shape,
  file_words,
  width,
  height,
  bad_header,
  refusal_of,
  file_kind,
  no_room,
  unpack_refusal,
  file_refusal,
  words_refusal_of,
  words_refusal,
  refused_or,
}
use Rattle.crop.specs.CropClauses.{Checks, or_lent, or_six, WordsAccepted, FileReady}

-- ---- refused, or accepted

module _ {A : Type 0} (refused : ℕ → A) (accepted : A) {number : ℕ} where
  pub is_refused : (number ≡ 0 → ⊥) → refused number ≡ refused_or number refused accepted
  unfolding refused_or
  is_refused some = chain_next _ _ (ne_eqb _ 0 some) refl

  pub is_accepted : number ≡ 0 → accepted ≡ refused_or number refused accepted
  unfolding refused_or
  is_accepted none = chain_here _ _ (eq-eqb _ 0 none) refl

-- ---- none of the conditions holds

room_of_search : (needed marks records : ℕ) → no_room needed marks records ≡ false → (marks ≡ needed) × (40 ≤ records)
room_of_search needed marks records none =
    let buffers = both_fail _ _ none in
    (eqb-true _ _ (not-false _ buffers.0), ltb-false _ _ buffers.1)

module _ (least : ℕ) (enough : 33 ≤ least) (k : ℕ) (file : List ℕ) (unfit : Bool) (none : refusal_of k least file unfit ≡ 0) where
  within : Limits (file_shape file) × (length file ≡ file_length (width file) (height file))
      × (file_padded file (width file) (height file) ≡ false) × (unfit ≡ false)
  unfolding refusal_of
  within = image_within least enough (file_shape file) _ _ _ unfit refl (chain_past (bad_header k file) 0 _ none).1

  pub file_accepted : FileAccepted (file_shape file) file
  file_accepted = record { limits = within.0; long = within.1; clean = within.2 }

  fits : unfit ≡ false
  fits = within.3

-- an image in words, and what is lent beside it
pub words_within : (words : List ℕ) (w h : ℕ) (unfit : Bool) → words_refusal_of words w h unfit ≡ 0
    → Limits (shape_of w h) × (length words ≡ size (shape_of w h)) × (words_padded words w h ≡ false) × (unfit ≡ false)
unfolding words_refusal_of
words_within words w h unfit none = image_within least_side (omega arith) (shape_of w h) _ _ _ _ refl none

pub words_accepted : (words : List ℕ) (w h : ℕ) (marks records : List ℕ) → words_refusal words w h (length marks) (length records) ≡ 0
    → WordsAccepted (shape_of w h) words marks records
words_accepted words w h marks records none =
    let image = words_within words w h _ none in
    let room = room_of_search _ _ _ image.3 in
    record { image = record { limits = image.0; stored = image.1; sized = room.0 ∙ sym image.1 }; clean = image.2; room = room.1 }

-- a file, with the lent buffers
pub file_ready : (file words marks records : List ℕ) → file_refusal file (length words) (length marks) (length records) ≡ 0
    → FileReady (file_shape file) file words marks records
file_ready file words marks records none =
    let accepted = file_accepted least_side (omega arith) file_kind file _ none in
    let buffers = both_fail _ _ (fits least_side (omega arith) file_kind file _ none) in
    let stored = eqb-true _ _ (not-false _ buffers.0) in
    let room = room_of_search _ _ _ buffers.1 in
    record { accepted = accepted; image = record { limits = accepted.limits; stored = stored; sized = room.0 ∙ sym stored }; room = room.1 }

-- the words of a file pass as an image in words
pub unpacked_passes : (file : List ℕ) (w h marks records : ℕ) → Limits (shape_of w h) → marks ≡ size (shape_of w h) → 40 ≤ records
    → 0 ≡ words_refusal (unpacked file (shape_of w h)) w h marks records
unfolding words_refusal_of image_refusal
unpacked_passes file w h marks records limits same room = search (chain, length_unpacked file (shape_of w h), unpacked_clean file w h) depth 12

-- ---- 6 comes last

-- a number of its own, or the number of what is lent; and of what is lent in two parts
pub six_kept : {n : ℕ} (unfit : Bool) → (n ≡ 0 → ⊥) → n ≡ or_six n unfit
unfolding or_six
six_kept {n} unfit some = rw (ne_eqb n 0 some) refl

pub six_next : {n r : ℕ} (unfit : Bool) → n ≡ 0 → r ≡ cond unfit 6 0 → r ≡ or_six n unfit
unfolding or_six
six_next {n} unfit none same = rw (eq-eqb n 0 none) same

pub six_both : (n : ℕ) (unfit more : Bool) → or_six (or_six n unfit) more ≡ or_six n (unfit || more)
unfolding or_six
six_both n unfit more = go (eqb n 0) unfit refl
  where
    go : (t u : Bool) → eqb n 0 ≡ t → cond (eqb (cond t (cond u 6 0) n) 0) (cond more 6 0) (cond t (cond u 6 0) n) ≡ cond t (cond (u || more) 6 0) n
    go true true e = refl
    go true false e = refl
    go false u e = ap (λ (b : Bool). cond b (cond more 6 0) n) e

abbrev numbered : Bool → Bool → Bool → Bool → Bool → Bool → ℕ
numbered a b c d e f = cond a 1 (cond b 2 (cond c 3 (cond d 4 (cond e 5 (cond f 6 0)))))

last_six : (a b c d e f : Bool) → numbered a b c d e f ≡ or_six (numbered a b c d e false) f
unfolding or_six
last_six true b c d e f = refl
last_six false true c d e f = refl
last_six false false true d e f = refl
last_six false false false true e f = refl
last_six false false false false true f = refl
last_six false false false false false f = refl

pub refusal_six : (k least : ℕ) (file : List ℕ) (unfit : Bool) → refusal_of k least file unfit ≡ or_six (refusal_of k least file false) unfit
unfolding refusal_of image_refusal
refusal_six k least file unfit =
    last_six (bad_header k file) (outside least (width file) || outside least (height file)) (ltb 8000 (file_words file))
    (misfit (length file) (file_length (width file) (height file))) (file_padded file (width file) (height file)) unfit

pub words_six : (words : List ℕ) (w h : ℕ) (unfit : Bool) → words_refusal_of words w h unfit ≡ or_six (words_refusal_of words w h false) unfit
unfolding words_refusal_of image_refusal
words_six words w h unfit =
    last_six false (outside least_side w || outside least_side h) (ltb 8000 (size (shape_of w h))) (misfit (length words) (size (shape_of w h)))
    (words_padded words w h) unfit

-- with no number
pub six_past : (n : ℕ) (unfit : Bool) → or_six n unfit ≡ 0 → (n ≡ 0) × (unfit ≡ false)
unfolding or_six
six_past n unfit none = go (eqb n 0) refl none
  where
    go : (t : Bool) → eqb n 0 ≡ t → cond t (cond unfit 6 0) n ≡ 0 → (n ≡ 0) × (unfit ≡ false)
    go true is e = (eqb-true _ _ is, (chain_past unfit 5 _ e).0)
    go false is e = absurd (eqb-false _ _ is e)

-- ---- a file that was checked

pub checked_rows : {file : List ℕ} (c : Result Shape Refusal) → Checks file c → IfOk c (λ s. s.row_words ≡ row_words s.width)
checked_rows (Ok shape) checks = rows_of checks.shape
checked_rows (Err refusal) checks = tt

-- its number, or 6 for buffers by the words of its image
pub by_words : {file : List ℕ} (c : Result Shape Refusal) → Checks file c → (unfit : ℕ → Bool)
    → or_lent c (λ s. unfit (size s)) ≡ refusal_of file_kind least_side file (unfit (file_words file))
unfolding or_six
by_words {file} (Ok shape) checks unfit =
    ap (λ (s : Shape). cond (unfit (size s)) 6 0) checks.shape ∙ ap (λ (n : ℕ). or_six n (unfit (file_words file))) checks.answer
    ∙ sym (refusal_six file_kind least_side file (unfit (file_words file)))
by_words {file} (Err refusal) checks unfit =
    six_kept (unfit (file_words file)) (number_some refusal) ∙ ap (λ (n : ℕ). or_six n (unfit (file_words file))) checks.answer
    ∙ sym (refusal_six file_kind least_side file (unfit (file_words file)))

-- with no number
pub file_accepted_by : {file : List ℕ} (c : Result Shape Refusal) → Checks file c → IfOk c (λ s. FileAccepted s file)
file_accepted_by {file} (Ok shape) checks =
    subst⁻¹ (λ (s : Shape). FileAccepted s file) checks.shape (file_accepted least_side (omega arith) file_kind file false (sym checks.answer))
file_accepted_by (Err refusal) checks = tt

module _ {file : List ℕ} {c : Result Shape Refusal} (checks : Checks file c) where
  pub unpack_refusal_by : (words : ℕ) {r : ℕ} → r ≡ or_lent c (λ s. misfit words (size s)) → r ≡ unpack_refusal file words
  unpack_refusal_by words e = e ∙ by_words c checks (misfit words)

  pub file_refusal_by : (words marks records : ℕ) {r : ℕ}
      → r ≡ or_lent c (λ s. misfit words (size s) || no_room (size s) marks records)
      → r ≡ file_refusal file words marks records
  file_refusal_by words marks records e = e ∙ by_words c checks λ n. misfit words n || no_room n marks records

  module _ {shape : Shape} (ok : c ≡ Ok shape) where
    pub checked_shape : shape ≡ file_shape file
    checked_shape = (subst (Checks file) ok checks).shape

    pub checked_accepted : FileAccepted shape file
    checked_accepted = file_accepted_by (Ok shape) (subst (Checks file) ok checks)

    module _ (words marks records : List ℕ) {r : ℕ}
        (is : r ≡ or_lent c (λ s. misfit (length words) (size s) || no_room (size s) (length marks) (length records))) (none : r ≡ 0) where
      pub file_ready_by : FileReady shape file words marks records
      file_ready_by =
          subst⁻¹ (λ (s : Shape). FileReady s file words marks records) checked_shape
          (file_ready file words marks records (sym (file_refusal_by (length words) (length marks) (length records) is) ∙ none))
