-- What the program's lent words, its 400 records and its 65,536 bytes of input give. Assumes nothing.
use Rattle.std.specs.Prelude.{ℕ, ◌*◌, ◌<◌, Bool, true, false, cond, ◌||◌, List, [], ◌≡◌, refl, eqb, ltb, length, take, replicate}
use Rattle.std.proofs.Common.{mul_assoc, mul-le-mul_right, arith, sym, ap, ◌∙◌, eqb-true, ltb-true, ltb-false, eq-eqb, ne_eqb, take_all}
use Rattle.bit_matrix.specs.Shape.{row_words}
use Rattle.crop_sizes.specs.Sizes.{row_bytes, least_side, misfit}
use Rattle.crop.specs.Crop.{file_words, width, height, no_room, refusal, file_refusal, file_kind, refused_or}
use Rattle.crop.specs.CropClauses.{or_six}
use Rattle.crop.specs.CropLaws.{file_accepted, refusal_six}
use Rattle.crop.specs.PrefixLaws.{refusal_prefix}
use Rattle.detector.specs.Detector.{run, FileRun, filed, refused_report, file_run}
use Rattle.find.specs.Find.{lent_words, text_of, printed}

-- the lent words fit, and 400 records are buffer enough: no answer is 6
pub never_six : (file : List ℕ) → file_refusal file (lent_words file) (lent_words file) 16000 ≡ refusal file
unfolding lent_words or_six
never_six file = refusal_six file_kind least_side file _ ∙ go (eqb (refusal file) 0) refl
  where
    lent : Bool → ℕ
    lent b = cond b (file_words file) 0

    go : (b : Bool) → eqb (refusal file) 0 ≡ b
        → cond b (cond (misfit (lent b) (file_words file) || no_room (file_words file) (lent b) 16000) 6 0) (refusal file) ≡ refusal file
    go true e = rw (eq-eqb (file_words file) (file_words file) refl) (sym (eqb-true _ _ e))
    go false e = refl

-- ---- an input of more than 65,536 bytes is refused as its start is

refused_long : (file : List ℕ) → 65536 < length file → refusal file ≡ 0 → ⊥
refused_long file long number =
    let ready = file_accepted least_side (omega arith) file_kind file _ number in
    let w : ℕ = width file in
    let h : ℕ = height file in
    omega (
      arith,
      ready.long,
      ready.limits.words_most,
      mul-le-mul_right {m = row_bytes w} {n = 8 * row_words w} h (omega arith),
      mul_assoc 8 (row_words w) h,
    )

-- the run of a refused file
refused_run : (file words records marks : List ℕ) (ellipse : Bool) (n : ℕ) → refusal file ≡ n → (n ≡ 0 → ⊥)
    → file_run file words records marks ellipse ≡ filed words (run (refused_report n) records marks)
unfolding file_run or_six refused_or
refused_run file words records marks ellipse n e refused = rw (refusal_six, e, ne_eqb n 0 refused, ne_eqb n 0 refused) refl

printed_refused : (file : List ℕ) (n : ℕ) → refusal file ≡ n → (n ≡ 0 → ⊥) → printed file ≡ text_of (run (refused_report n) (replicate 16000 0) [])
unfolding printed
printed_refused file n e refused =
    let lent : List ℕ = replicate (lent_words file) 0 in
    ap (λ (x : FileRun). text_of x.run) (refused_run file lent (replicate 16000 0) lent false n e refused)

-- so the program reads no more of it: the run of the start is that of the whole input, whatever is lent, and so is what is printed
pub start_is_enough : (input words records marks : List ℕ) (ellipse : Bool)
    → file_run (take 65536 input) words records marks ellipse ≡ file_run input words records marks ellipse
start_is_enough input words records marks ellipse = go (ltb 65536 (length input)) refl
  where
    go : (b : Bool) → ltb 65536 (length input) ≡ b → file_run (take 65536 input) words records marks ellipse ≡ file_run input words records marks ellipse
    go true e =
        let long : 65536 < length input = ltb-true _ _ e in
        let same : refusal (take 65536 input) ≡ refusal input = refusal_prefix file_kind least_side input 65536 (omega arith) (omega arith) in
        refused_run (take 65536 input) words records marks ellipse (refusal input) same (refused_long input long)
        ∙ sym (refused_run input words records marks ellipse (refusal input) refl (refused_long input long))
    go false e = ap (λ (file : List ℕ). file_run file words records marks ellipse) (take_all 65536 input (ltb-false _ _ e))

pub printed_start : (input : List ℕ) → printed (take 65536 input) ≡ printed input
printed_start input = go (ltb 65536 (length input)) refl
  where
    go : (b : Bool) → ltb 65536 (length input) ≡ b → printed (take 65536 input) ≡ printed input
    go true e =
        let long : 65536 < length input = ltb-true _ _ e in
        let same : refusal (take 65536 input) ≡ refusal input = refusal_prefix file_kind least_side input 65536 (omega arith) (omega arith) in
        printed_refused (take 65536 input) (refusal input) same (refused_long input long)
        ∙ sym (printed_refused input (refusal input) refl (refused_long input long))
    go false e = ap printed (take_all 65536 input (ltb-false _ _ e))
