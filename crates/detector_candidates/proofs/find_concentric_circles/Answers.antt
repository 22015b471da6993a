-- `detector_candidates::find_concentric_circles` meets its contract.
use Rattle.std.proofs.Common.{ℕ, refl, List, arith}
use Rattle.reads.proofs.RunsLaws.{resumes_start}
use Rattle.records.specs.Records.{rows}
use Rattle.bit_matrix.specs.declared.BitMatrix.{BitMatrix}
use Rattle.bit_matrix.proofs.ImageLaws.{kept_same}
use Rattle.detector_candidates.specs.CandidatesClauses.{Room}
use Rattle.detector_candidates.specs.Candidates.{concentric_circles_by}
use Rattle.detector_candidates.proofs.find_concentric_circles.Invariants.{Sweeping, at_full, onward, past}
use Rattle.detector_candidates.proofs.find_concentric_circles.Goals as goal

begins : (image : BitMatrix) {records : List ℕ} {capacity : ℕ} → Room capacity records 0 → Sweeping image records capacity image records 0 6
unfolding concentric_circles_by rows
begins image room = record {
  fuel = image.shape.height;
  kept = kept_same;
  room = room;
  same = refl;
  fueled = omega arith;
  rest = refl;
  resumes = resumes_start;
}

pub loop-row-init : goal.loop-row-init
loop-row-init c = search begins

pub sweep_row-found-requires : goal.sweep_row-found-requires
sweep_row-found-requires c = (rw c.loop-row.invariant.kept.shape (omega arith), c.loop-row.invariant.room)

pub returns-then-found-capacity-clause-listed : goal.returns-then-found-capacity-clause-listed
returns-then-found-capacity-clause-listed c =
    at_full c.loop-row.invariant c.loop-row-test.true c.sweep_row-found.new.image c.sweep_row-found.ensures.listed c.if-found-capacity.true

pub loop-row-preserved : goal.loop-row-preserved
loop-row-preserved c =
    onward c.loop-row.invariant c.loop-row-test.true _ c.sweep_row-found.ensures.listed c.if-found-capacity.false c.sweep_row-found.ensures.kept
    c.sweep_row-found.auto.records

pub returns-clause-listed : goal.returns-clause-listed
returns-clause-listed c = past c.loop-row.invariant c.loop-row-test.false

pub returns-else-found-capacity-clause-listed : goal.returns-else-found-capacity-clause-listed
returns-else-found-capacity-clause-listed c =
    past
    (onward c.loop-row.invariant c.loop-row-test.true _ c.sweep_row-found.ensures.listed c.if-found-capacity.false c.sweep_row-found.ensures.kept
    c.sweep_row-found.auto.records)
    (omega arith)
