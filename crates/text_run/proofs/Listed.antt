-- The lines of the records, one after the other: i are put. Assumes nothing.
use Rattle.std.proofs.Common.{ℕ, ◌+◌, ◌*◌, ◌≤◌, ◌<◌, List, [], ◌∷◌, ◌++◌, ◌≡◌, refl, sym, ap, subst₂, ◌∙◌, arith, add-one, length, get_or, take, append-nil, append_assoc, take-suc, take_all}
use mathlib.Core.List.{flat_map}
use Rattle.records.specs.Records.{Record, rows}
use Rattle.text.specs.Text.{Puts}
use Rattle.text.specs.TextClauses.{HasRoom, Begun, Wrote}
use Rattle.text.specs.TextLaws.{wrote_then, wrote_none, wrote_as}
use Rattle.text.specs.declared.Text.{Text}
use Rattle.text_lines.specs.Lines.{report_line, record_line}
use Rattle.text_lines.specs.LinesLaws.{record_short}
use Rattle.text_run.specs.RunText.{record_lines, run_text}

flat_append : {A : Type 0} (f : A → List ℕ) (xs ys : List A) → flat_map f (xs ++ ys) ≡ flat_map f xs ++ flat_map f ys
unfolding flat_map
flat_append f [] ys = refl
flat_append f (x ∷ xs) ys = ap (λ (l : List ℕ). f x ++ l) (flat_append f xs ys) ∙ sym (append_assoc (f x) (flat_map f xs) (flat_map f ys))

pub record Lines (records : List Record) (before : Text) (i : ℕ) (now : Text) : Type 0 where
  pub few : i ≤ length records
  pub wrote : Wrote (flat_map record_line (take i records)) before now
  pub place : now.len ≤ before.len + 200 * i

module _ {records : List Record} {before : Text} where
  pub lines_begin : HasRoom 0 before → Lines records before 0 before
  unfolding flat_map
  lines_begin room = record { few = omega arith; wrote = wrote_none room; place = omega arith }

  pub lines_then : {i : ℕ} {now after : Text} → i < length records → Wrote (record_line (get_or records i [])) now after → Lines records before i now
      → Lines records before (i + 1) after
  unfolding flat_map
  lines_then {i} less wrote so_far = record {
    few = omega arith;
    wrote = wrote_as more (wrote_then so_far.wrote wrote);
    place = omega (arith, so_far.place, wrote.puts.end, record_short (get_or records i []));
  }
    where
      next : Record
      next = get_or records i []

      more : flat_map record_line (take i records) ++ record_line next ≡ flat_map record_line (take (i + 1) records)
      more =
          ap (λ (l : List ℕ). flat_map record_line (take i records) ++ l) (sym (append-nil (record_line next)))
          ∙ sym (flat_append record_line (take i records) (next ∷ []))
          ∙ ap (flat_map record_line) (sym (ap (λ (n : ℕ). take n records) (add-one i) ∙ take-suc records i [] less))

  pub lines_end : {i : ℕ} {now : Text} → length records ≤ i → Lines records before i now → Wrote (flat_map record_line records) before now
  lines_end {i} all done = wrote_as (ap (flat_map record_line) (take_all i records all)) done.wrote

-- a run's text, from the buffer that was lent to the text that is written
pub run_put : (answer found kept marked : ℕ) (records : List ℕ) {buf left : List ℕ} {n : ℕ} {rs : List Record} {begun reported done : Text} → Begun buf begun
    → Wrote (report_line answer found kept marked) begun reported → rs ≡ rows kept records → Wrote (flat_map record_line rs) reported done
    → n ≡ done.len → left ≡ done.buf.now → Puts (run_text answer found kept marked records) 0 buf n left
unfolding run_text record_lines
run_put answer found kept marked records {buf} {done = done} new report are lines long end =
    let text : List ℕ = report_line answer found kept marked ++ flat_map record_line (rows kept records) in
    let all = wrote_then report (wrote_as (ap (flat_map record_line) are) lines) in
    subst₂ (λ (m : ℕ) (l : List ℕ). Puts text 0 buf m l) (sym long) (sym end)
    (subst₂ (λ (m : ℕ) (l : List ℕ). Puts text m l done.len done.buf.now) new.len new.buf all.puts)
