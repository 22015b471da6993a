-- `find::put_lines` meets its contract: the parts that are lent for the words and the marks have the image's length, and no more records are
-- kept than 400.
use Rattle.std.proofs.Common.{ℕ, zero, suc, ◌≤◌, arith, Bool, false, List, ◌∷◌, ◌≡◌, refl, ap, ◌∙◌, length, take, replicate, rules}
use Rattle.detector.specs.Detector.{run, FileRun, filed, file_run}
use Rattle.detector.specs.DetectorLaws.{file_few}
use Rattle.detector.specs.declared.Report.{Report}
use Rattle.text.specs.Text.{Puts}
use Rattle.text.specs.TextLaws.{puts_as}
use Rattle.find.specs.Find.{lent_words, text_of, printed}
use Rattle.find.proofs.put_lines.Goals as goal

-- the buffer has room for 400 records, and no more are kept
kept_few : (file words records marks : List ℕ) (ellipse : Bool) {words' records' marks' : List ℕ} {r : Report}
    → filed words' (run r records' marks') ≡ file_run file words records marks ellipse → length records ≡ 16000 → r.kept ≤ 400
kept_few file words records marks ellipse searched long =
    omega (arith, ap (λ (x : FileRun). x.run.report.kept) searched, file_few file words records marks ellipse)

-- the start of a buffer of zeros
take_zeros : (n m : ℕ) → n ≤ m → take n (replicate m 0) ≡ replicate {A = ℕ} n 0
take_zeros zero m h = refl
take_zeros (suc n) zero h = absurd (omega arith)
take_zeros (suc n) (suc m) h = ap (λ (l : List ℕ). 0 ∷ l) (take_zeros n m (omega arith))

-- the text of a search with these buffers lent is what is printed
puts_printed : (file : List ℕ) {n : ℕ} (lent : List ℕ) {words' records' marks' : List ℕ} {r : Report} {next : ℕ} {before after : List ℕ}
    → n ≡ lent_words file → lent ≡ replicate n 0 → filed words' (run r records' marks') ≡ file_run file lent (replicate 16000 0) lent false
    → Puts (text_of (run r records' marks')) 0 before next after → Puts (printed file) 0 before next after
unfolding printed
puts_printed file lent size zeros searched puts =
    let are : lent ≡ replicate (lent_words file) 0 = zeros ∙ ap (λ (k : ℕ). replicate k 0) size in
    puts_as (ap (λ (x : FileRun). text_of x.run) (searched ∙ ap (λ (l : List ℕ). file_run file l (replicate 16000 0) l false) are)) puts

zeros : List ℕ
zeros = replicate 8000 0

pub put_run-requires : goal.put_run-requires
put_run-requires c =
    let few = kept_few _ _ _ _ _ c.search_checked-report.ensures (search rules) in
    (search rules, search rules)

pub returns : goal.returns
returns c =
    let size = c.lent_words-size.ensures _ c.check_file-checked.ensures in
    puts_printed _ _ size.0 (take_zeros _ 8000 size.1) c.search_checked-report.ensures c.put_run.ensures
