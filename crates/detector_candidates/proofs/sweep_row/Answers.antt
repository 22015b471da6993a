-- `detector_candidates::sweep_row` meets its contract.
use Rattle.std.proofs.Common.{ℕ, ◌<◌, refl, List, arith, Some}
use Rattle.reads.proofs.RunsLaws.{resumes_start}
use Rattle.bit_matrix.specs.declared.BitMatrix.{BitMatrix}
use Rattle.bit_matrix.proofs.ImageLaws.{kept_same}
use Rattle.detector_candidates.specs.CandidatesClauses.{Room}
use Rattle.detector_candidate.specs.CandidateLaws.{searchable_first}
use Rattle.detector_candidates.proofs.sweep_row.Invariants.{Sweeping, at_end, at_full, fewer, onward}
use Rattle.detector_candidates.proofs.sweep_row.Goals as goal

begins : (image : BitMatrix) {records : List ℕ} {capacity row found : ℕ} → row < image.shape.height → Room capacity records found
    → Sweeping image records capacity row found image records found (Some 6)
begins image above room = record {
  fuel = image.shape.width;
  kept = kept_same;
  room = room;
  same = refl;
  rest = refl;
  going = record { at = searchable_first image.is_image.limits above; fueled = omega arith };
  resumes = resumes_start;
}

pub loop-next-init : goal.loop-next-init
loop-next-init c = search begins

pub returns-then-count-capacity-clause-listed : goal.returns-then-count-capacity-clause-listed
returns-then-count-capacity-clause-listed c =
    let so_far = rw c.in-Some.is at c.loop-next.invariant in
    at_full so_far c.search_from-s.ensures c.append-count.ensures c.if-count-capacity.true

pub loop-next-smaller : goal.loop-next-smaller
loop-next-smaller c =
    let so_far = rw c.in-Some.is at c.loop-next.invariant in
    rw c.in-Some.is (fewer so_far c.search_from-s.ensures c.append-count.ensures)

pub loop-next-preserved : goal.loop-next-preserved
loop-next-preserved c =
    let so_far = rw c.in-Some.is at c.loop-next.invariant in
    onward so_far c.search_from-s.ensures c.append-count.ensures c.if-count-capacity.false c.append-count.auto.records

pub returns-clause-listed : goal.returns-clause-listed
returns-clause-listed c = at_end c.loop-next.invariant c.in_default.is
