-- `detector_candidate::candidate_of` meets its contract: the runs are put into a record that has three words.
use Rattle.std.proofs.Common.{ℕ, suc, ◌≤◌, ◌≡◌, sym, ap, ap₂, ◌∙◌, List, ◌∷◌, ◌++◌, length, drop, replicate, length-append, take_at, drop_at, drop-drop, arith, rules}
use Rattle.records.specs.CopiesLaws.{Copied, begins, onward, over}
use Rattle.detector_window.specs.declared.Bullseye.{Bullseye}
use Rattle.detector_candidate.specs.Candidate.{candidate_of}
use Rattle.detector_candidate.proofs.candidate_of.Invariants.{with_centre, with_row}
use Rattle.detector_candidate.proofs.candidate_of.Goals as goal

-- from the row's runs to the column's
behind : {row : ℕ} {eye : Bullseye} {vertical fields : List ℕ} {k : ℕ} → length eye.buckets ≡ 11 → Copied 11 3 (with_centre row eye) eye.buckets fields k → 11 ≤ k
    → length vertical ≡ 11 → Copied 11 14 (with_row row eye) vertical fields 0
behind {row} {eye} eleven copied all same =
    let long : 25 ≤ length (with_row row eye) = rw (length-append eye.buckets (replicate 26 0), eleven) (omega arith) in
    rw (over copied all) (begins long same)

-- the column's runs, behind the row's
placed : (row : ℕ) (eye : Bullseye) {vertical fields : List ℕ} {k : ℕ} → length eye.buckets ≡ 11 → Copied 11 14 (with_row row eye) vertical fields k → 11 ≤ k
    → fields ≡ candidate_of row eye vertical
unfolding candidate_of
placed row eye {vertical} eleven copied all =
    let front : List ℕ = eye.center ∷ row ∷ eye.radius ∷ eye.buckets in
    let back : List ℕ = replicate 26 0 in
    let long : length front ≡ 14 = ap (λ (n : ℕ). suc (suc (suc n))) eleven in
    let rest : drop 25 (front ++ back) ≡ replicate 15 0 = sym (drop-drop 11 14 (front ++ back)) ∙ ap (drop 11) (drop_at front back 14 long) in
    over copied all ∙ ap₂ (λ (s t : List ℕ). s ++ vertical ++ t) (take_at front back 14 long) rest

pub loop-k-init : goal.loop-k-init
loop-k-init c = search (begins, rules)

pub loop-k-preserved : goal.loop-k-preserved
loop-k-preserved c = search (onward, rules)

pub loop-k-2-init : goal.loop-k-2-init
loop-k-2-init c = search (behind, rules)

pub loop-k-2-preserved : goal.loop-k-2-preserved
loop-k-2-preserved c = search (onward, rules)

pub returns : goal.returns
returns c = search (placed, rules)
