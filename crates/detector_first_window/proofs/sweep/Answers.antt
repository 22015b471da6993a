-- `detector_first_window::sweep` meets its contract.
use Rattle.std.proofs.Common.{refl}
use Rattle.detector_first_window.proofs.Sweeping.{begins, nothing_left, at_limit, refilled, window_fits, closes, onward}
use Rattle.detector_first_window.proofs.sweep.Goals as goal

pub returns-then-limit-from : goal.returns-then-limit-from
returns-then-limit-from c = search nothing_left

pub loop-stop-init : goal.loop-stop-init
loop-stop-init c = begins c.new-ring.ensures.0 c.new-ring.ensures.1 c.args.image.now.limits c.args.image.now.stored c.requires c.if-limit-from.false
    c.word_end-stop.ensures c.first_word-first.ensures.0 c.changes-changes.ensures

pub get_bullseye_metadata-requires : goal.get_bullseye_metadata-requires
get_bullseye_metadata-requires c = window_fits c.loop-stop.invariant refl refl c.if-end-stop.true c.in-Some.ensures

pub returns-in-Some : goal.returns-in-Some
returns-in-Some c = closes c.loop-stop.invariant refl refl c.if-end-stop.true c.in-Some.ensures c.get_bullseye_metadata.ensures

pub loop-stop-preserved-then-end-stop : goal.loop-stop-preserved-then-end-stop
loop-stop-preserved-then-end-stop c =
    onward c.loop-stop.invariant refl refl c.if-end-stop.true c.in_default.ensures c.push.ensures.0 c.push.ensures.1

pub returns-then-limit-stop : goal.returns-then-limit-stop
returns-then-limit-stop c = search at_limit

pub loop-stop-preserved : goal.loop-stop-preserved
loop-stop-preserved c =
    refilled c.loop-stop.invariant refl c.if-end-stop.false c.if-limit-stop.false c.first_word-first.ensures.0 c.changes-changes-else-end-stop.ensures
    c.is_black-black.ensures
    c.word_end-stop-else-end-stop.ensures
