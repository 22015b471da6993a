-- `step_exports::sweep::count_row` meets its contract.
use Rattle.std.proofs.Common.{ℕ, suc, ◌+◌, ◌-◌, ◌≤◌, ◌<◌, ◌≡◌, Bool, arith}
use Rattle.std.proofs.Math.Nat.{sub-zero}
use Rattle.reads.specs.Bits.{digit}
use Rattle.reads.proofs.BitsLaws.{digit_low}
use Rattle.reads.proofs.RunsLaws.{ran_done, resumes_start, resumes_step, resumes_end}
use Rattle.bit_matrix.specs.declared.BitMatrix.{BitMatrix}
use Rattle.bit_matrix.specs.ImageClauses.{RanOn}
use Rattle.bit_matrix.proofs.ImageLaws.{kept_same, kept_on, onto}
use Rattle.bit_matrix.specs.Pixels.{pixel}
use Rattle.step_exports.specs.Row.{black_from}
use Rattle.step_exports.proofs.sweep.count_row.Invariants.{Counting}
use Rattle.step_exports.proofs.sweep.count_row.Goals as goal

begins : {image : BitMatrix} {row columns : ℕ} → Counting image row columns image 0 0
begins = record { kept = kept_same; few = omega arith; resumes = rw sub-zero resumes_start }

module _ {first image : BitMatrix} {row columns count x : ℕ} (counting : Counting first row columns image count x) where
  at_end : columns ≤ x → RanOn (black_from first.shape row columns 0 0) first count image
  unfolding black_from
  at_end h =
      let none : columns - x ≡ 0 = omega arith in
      record { kept = counting.kept; ran = resumes_end (ran_done _) (rw none at counting.resumes) }

  module _ (h : x < columns) where
    onward : {b : Bool} {after : BitMatrix} → RanOn (pixel image.shape x row) image b after → Counting first row columns after (count + digit b) (x + 1)
    unfolding black_from
    onward {b} run =
        let left : columns - x ≡ suc (columns - (x + 1)) = omega arith in
        record {
          kept = kept_on counting.kept run.kept;
          few = omega (arith, digit_low b, counting.few);
          resumes = resumes_step _ (onto (λ shape. pixel shape x row) counting.kept run) (rw left at counting.resumes);
        }

pub loop-x-preserved : goal.loop-x-preserved
loop-x-preserved c = rw c.from-count.ensures (onward c.loop-x.invariant c.loop-x-test.true c.get.ensures)

pub returns : goal.returns
returns c = search at_end
