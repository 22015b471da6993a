-- `detector_window::Ring::buckets` meets its contract, run by run.
use Rattle.std.proofs.Common.{ℕ, ◌+◌, ◌-◌, ◌%◌, ◌≤◌, ◌<◌, List, length, get_or, set, ◌≡◌, refl, sym, ap, ◌∙◌, arith, below_more, length-set, get_or-set_same, get_or-set_other, ext_get_or}
use Rattle.detector_window.specs.Ring.{count, buckets_of}
use Rattle.detector_window.specs.RingLaws.{length_tab, at_tab, count_old, count_now}
use Rattle.detector_window.proofs.Ring.buckets.Invariants.{Counted}
use Rattle.detector_window.proofs.Ring.buckets.Goals as goal

begins : {starts buckets : List ℕ} {k end : ℕ} → length buckets ≡ 11 → Counted starts k end buckets 0
begins eleven = record { eleven = eleven; runs = λ j low. absurd (omega arith) }

module _ {starts buckets : List ℕ} {k end n : ℕ} (counted : Counted starts k end buckets n) where
  -- one run more
  onward : {v : ℕ} → n < 11 → v ≡ count starts k end n → Counted starts k end (set buckets n v) (n + 1)
  onward {v} low is =
      let eleven = counted.eleven in
      let in_range : n < length buckets = omega arith in
      record {
        eleven = length-set buckets n v ∙ eleven;
        runs = below_more _ _
            (λ j before. get_or-set_other buckets n j v 0 (λ same. omega arith) ∙ counted.runs j before)
            (get_or-set_same buckets n v 0 in_range ∙ is);
      }

  all : n ≡ 11 → buckets ≡ buckets_of starts k end
  all full =
      ext_get_or 0 buckets (buckets_of starts k end) (counted.eleven ∙ sym (length_tab (count starts k end) 0 11))
      (λ j low. counted.runs j (omega (arith, counted.eleven)) ∙ sym (at_tab (count starts k end) 11 j (omega (arith, counted.eleven))))

-- the present run is the last
ended : {starts buckets : List ℕ} {k end n v : ℕ} → 10 ≤ k → n ≡ 10 → Counted starts k end buckets n → v ≡ end - get_or starts ((k - 10 + 10) % 16) 0
    → set buckets 10 v ≡ buckets_of starts k end
ended {starts} {buckets} {k} {end} {n} {v} many ten counted is =
    let here : k - 10 + 10 ≡ k = omega arith in
    let last : v ≡ count starts k end 10 =
    is ∙ ap (λ (j : ℕ). end - get_or starts (j % 16) 0) here ∙ sym (count_now starts k end 10 (omega arith)) in
    all (onward (rw ten at counted) (omega arith) last) refl

pub loop-i-preserved : goal.loop-i-preserved
loop-i-preserved c =
    let over = count_old c.args.self.now.starts c.args.self.now.present c.args.end c.loop-i.i (omega arith) in
    onward c.loop-i.invariant (omega arith) (cc over)

pub returns : goal.returns
returns c = ended c.requires (omega arith) c.loop-i.invariant (cc)
