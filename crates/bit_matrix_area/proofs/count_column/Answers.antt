-- `bit_matrix_area::count_column` meets its contract.
use Rattle.std.proofs.Common.{ℕ, suc, ◌+◌, ◌-◌, ◌≤◌, ◌<◌, ◌≡◌, Bool, None, Some, arith}
use Rattle.reads.specs.Bits.{digit, range}
use Rattle.reads.proofs.BitsLaws.{digit_low}
use Rattle.reads.proofs.RunsLaws.{ran_done, resumes_step, resumes_end}
use Rattle.bit_matrix.specs.declared.BitMatrix.{BitMatrix}
use Rattle.bit_matrix.specs.ImageClauses.{RanOn}
use Rattle.bit_matrix.specs.Pixels.{try_get}
use Rattle.bit_matrix.proofs.ImageLaws.{kept_on, onto}
use Rattle.bit_matrix_area.specs.Area.{column, count_black}
use Rattle.bit_matrix_area.proofs.count_column.Invariants.{Counting}
use Rattle.bit_matrix_area.proofs.count_column.Goals as goal

module _ {i₀ image : BitMatrix} {x from to black count y : ℕ} (counting : Counting i₀ x from to black image count y) where
  at_end : to ≤ y → RanOn (count_black i₀.shape (column x from to) black) i₀ (Some count) image
  unfolding range count_black
  at_end h =
      let none : to - y ≡ 0 = omega arith in
      record { kept = counting.kept; ran = resumes_end (ran_done _) (rw none at counting.resumes) }

  module _ (h : y < to) where
    left : to - y ≡ suc (to - (y + 1))
    left = omega arith

    outside : {after : BitMatrix} → RanOn (try_get image.shape x y) image None after → RanOn (count_black i₀.shape (column x from to) black) i₀ None after
    unfolding range count_black
    outside run = record {
      kept = kept_on counting.kept run.kept;
      ran = resumes_end (ran_done _) (resumes_step _ (onto (λ shape. try_get shape x y) counting.kept run) (rw left at counting.resumes));
    }

    onward : {b : Bool} {after : BitMatrix} → RanOn (try_get image.shape x y) image (Some b) after
        → Counting i₀ x from to black after (count + digit b) (y + 1)
    unfolding range count_black
    onward {b} run = record {
      kept = kept_on counting.kept run.kept;
      room = omega (arith, digit_low b, counting.room);
      resumes = resumes_step _ (onto (λ shape. try_get shape x y) counting.kept run) (rw left at counting.resumes);
    }

pub returns-in_err-count : goal.returns-in_err-count
returns-in_err-count c =
    rw c.from_residual.ensures (outside c.loop-y.invariant c.loop-y-test.true c.in_err-count.ensures)

pub loop-y-preserved : goal.loop-y-preserved
loop-y-preserved c = onward c.loop-y.invariant c.loop-y-test.true c.in_ok-count.ensures

pub returns : goal.returns
returns c = search at_end
