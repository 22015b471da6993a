-- `detector_window::Ring::closed_by` meets its contract, by the tests and the calls' results.
use Rattle.std.proofs.Common.{ℕ, ◌≤◌, ◌<◌, true, false, ◌≡◌, List, Some, None, lt-ltb, le-ltb}
use Rattle.detector_widths.specs.Widths.{valid_widths}
use Rattle.detector_window.specs.Ring.{colour, buckets_of, closing, closed_by}
use Rattle.detector_window.proofs.Ring.closed_by.Goals as goal
use Rattle.detector_window.proofs.Ring.closed_by.Goals.{then-self-lt10-via-then-self-lt10, then-self-lt10-via-else-self-lt10+then-not-black}

module _ (starts : List ℕ) (k end : ℕ) where
  few : k < 10 → None ≡ closed_by starts k end
  unfolding closing closed_by
  few h = rw (lt-ltb _ _ h)

  white : 10 ≤ k → false ≡ colour k → None ≡ closed_by starts k end
  unfolding closing closed_by
  white h turn = rw (le-ltb _ _ h, ← turn)

  module _ {runs : List ℕ} (many : 10 ≤ k) (black : true ≡ colour k) (counted : runs ≡ buckets_of starts k end) where
    shut : true ≡ valid_widths runs → Some runs ≡ closed_by starts k end
    unfolding closing closed_by
    shut pass = rw (le-ltb _ _ many, ← black, ← counted, ← pass)

    open_still : false ≡ valid_widths runs → None ≡ closed_by starts k end
    unfolding closing closed_by
    open_still fail = rw (le-ltb _ _ many, ← black, ← counted, ← fail)

pub returns-then-self-lt10 : goal.returns-then-self-lt10
returns-then-self-lt10 c =
    elim c.then-self-lt10.branch [
      | then-self-lt10-via-then-self-lt10 w ↦ few _ _ _ w.if-self-lt10.true
      | then-self-lt10-via-else-self-lt10+then-not-black w ↦ white _ _ _ w.if-self-lt10.false (cc)
    ]

pub returns-then-validate_bullseye_widths : goal.returns-then-validate_bullseye_widths
returns-then-validate_bullseye_widths c =
    shut _ _ _ c.if-self-lt10.false (cc) c.buckets-buckets.ensures c.if-validate_bullseye_widths.ensures

pub returns-else-validate_bullseye_widths : goal.returns-else-validate_bullseye_widths
returns-else-validate_bullseye_widths c =
    open_still _ _ _ c.if-self-lt10.false (cc) c.buckets-buckets.ensures c.if-validate_bullseye_widths.ensures
