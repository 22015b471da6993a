-- `bit_runs::mark_range` meets its contract.
use Rattle.std.proofs.Common.{ℕ, ◌+◌, ◌-◌, ◌*◌, ◌≤◌, ◌<◌, min, max, ◌≡◌, refl, sym, ap, ◌∙◌, List, length, get_or, set, bit_or, arith}
use Rattle.reads.specs.MasksLaws.{mask}
use Rattle.reads.proofs.MasksLaws.{marked_word, marked_past}
use Rattle.reads.specs.Bits.{mark_all, range}
use Rattle.reads.proofs.BitsLaws.{length_mark_all, range_join}
use Rattle.bit_runs.proofs.mark_range.Invariants.{Marking}
use Rattle.bit_runs.proofs.mark_range.Goals as goal
use Rattle.bit_runs.proofs.mark_range.Goals.{then-first-word, else-first-word}

begins : {marks : List ℕ} {first from i : ℕ} → i ≡ from → Marking marks first from i marks
unfolding range mark_all
begins {from = from} is =
    let none : from - from ≡ 0 = omega arith in
    record { sized = refl; marked = rw (is, none) }

-- word `word` of the row, of which the ones from place p up to place e are marked, column i lying at place p
module _ {marks₀ marks : List ℕ} {first from i : ℕ} (word p e : ℕ) (inv : Marking marks₀ first from i marks) (here : word * 64 + p ≡ i) (after : from ≤ i)
    (low : p ≤ e) (high : e ≤ 64) {next : List ℕ} {j : ℕ} (there : j ≡ word * 64 + e) where
  -- the word's range, marked on top
  onward : next ≡ mark_all marks (range ((first + word) * 64 + p) (e - p)) → Marking marks₀ first from j next
  onward made =
      let start : (first + word) * 64 + p ≡ first * 64 + from + (i - from) = omega arith in
      let more : i - from + (e - p) ≡ j - from = omega arith in
      record {
        sized = ap length made ∙ length_mark_all marks (range ((first + word) * 64 + p) (e - p)) ∙ inv.sized;
        marked = made ∙ ap (λ (j : ℕ). mark_all marks (range j (e - p))) start
            ∙ ap (λ (l : List ℕ). mark_all l (range (first * 64 + from + (i - from)) (e - p))) inv.marked
            ∙ range_join marks₀ (first * 64 + from) (i - from) (e - p)
            ∙ ap (λ (k : ℕ). mark_all marks₀ (range (first * 64 + from) k)) more;
      }

  stored : {ones : ℕ} → ones ≡ mask (e - p) p → first + word < length marks
      → next ≡ set marks (first + word) (bit_or (get_or marks (first + word) 0) ones) → Marking marks₀ first from j next
  stored is in_range made =
      onward
      (made ∙ ap (λ (v : ℕ). set marks (first + word) (bit_or (get_or marks (first + word) 0) v)) is
      ∙ sym (marked_word (first + word) marks (e - p) p in_range (omega arith)))

  past : length marks ≤ first + word → next ≡ marks → Marking marks₀ first from j next
  past out same = onward (same ∙ sym (marked_past (first + word) marks (e - p) p out (omega arith)))

pub loop-word-init : goal.loop-word-init
loop-word-init c = begins (omega arith)

pub loop-word-preserved : goal.loop-word-preserved
loop-word-preserved c =
    let marking = c.loop-word.invariant in
    let here : c.loop-word.word * 64 + c.saturating_sub.result ≡ max c.args.from (min c.args.to (c.loop-word.word * 64)) = omega arith in
    let there : max c.args.from (min c.args.to ((c.loop-word.word + 1) * 64)) ≡ c.loop-word.word * 64 + c.min.result = omega arith in
    elim c.if-first-word.branch [
      | then-first-word w ↦ stored _ _ _ marking here (omega arith) (omega arith) (omega arith) there c.mask_of-ones.ensures w.if-first-word.true w.marks-is
      | else-first-word w ↦ past _ _ _ marking here (omega arith) (omega arith) (omega arith) there w.if-first-word.false w.marks-is
    ]
