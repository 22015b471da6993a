-- `bit_matrix_area::count_box` meets its contract.
use Rattle.std.proofs.Common.{ℕ, suc, ◌+◌, ◌-◌, ◌≤◌, ◌<◌, ◌≡◌, ◌++◌, None, Some, arith, length}
use mathlib.Core.List.{flat_map}
use Rattle.reads.specs.Bits.{range}
use Rattle.reads.specs.RunsClauses.{Resumes}
use Rattle.reads.proofs.RunsLaws.{ran_done, resumes_step, resumes_end}
use Rattle.bit_matrix.specs.declared.BitMatrix.{BitMatrix}
use Rattle.bit_matrix.specs.ImageClauses.{RanOn}
use Rattle.bit_matrix.proofs.ImageLaws.{kept_on, onto}
use Rattle.bit_matrix_area.specs.Area.{column, box, count_black}
use Rattle.bit_matrix_area.proofs.AreaLaws.{count_append, ran_few, length_column}
use Rattle.bit_matrix_area.proofs.count_box.Invariants.{Counting}
use Rattle.bit_matrix_area.proofs.count_box.Goals as goal

module _ {i₀ image : BitMatrix} {left right from to black x : ℕ} (counting : Counting i₀ left right from to image black x) where
  at_end : right ≤ x → RanOn (count_black i₀.shape (box left right from to) 0) i₀ (Some black) image
  unfolding range flat_map count_black
  at_end h =
      let none : right - x ≡ 0 = omega arith in
      record { kept = counting.kept; ran = resumes_end (ran_done _) (rw none at counting.resumes) }

  module _ (h : x < right) where
    left_to_do : right - x ≡ suc (right - (x + 1))
    left_to_do = omega arith

    -- the present column, and then the others
    next : Resumes i₀.words.now
        (count_black i₀.shape (column x from to ++ box (x + 1) right from to) black) image.marks.now
        (count_black i₀.shape (box left right from to) 0) i₀.marks.now
    unfolding range flat_map
    next = rw left_to_do at counting.resumes

    outside : {after : BitMatrix} → RanOn (count_black image.shape (column x from to) black) image None after
        → RanOn (count_black i₀.shape (box left right from to) 0) i₀ None after
    outside run = record {
      kept = kept_on counting.kept run.kept;
      ran = resumes_end (ran_done _) (resumes_step _ (onto (λ shape. count_black shape (column x from to) black) counting.kept run) (rw count_append at next));
    }

    onward : {n : ℕ} {after : BitMatrix} → RanOn (count_black image.shape (column x from to) black) image (Some n) after → to ≤ from + 3
        → Counting i₀ left right from to after n (x + 1)
    onward {n} run high =
        let most : n ≤ black + length (column x from to) = (ran_few _ (column x from to) black run.ran).few in
        record {
          kept = kept_on counting.kept run.kept;
          begun = omega (arith, counting.begun);
          few = omega (arith, most, length_column x from to, counting.few, counting.begun);
          resumes = resumes_step _ (onto (λ shape. count_black shape (column x from to) black) counting.kept run) (rw count_append at next);
        }

pub returns-in_err-black : goal.returns-in_err-black
returns-in_err-black c =
    rw c.from_residual.ensures (outside c.loop-x.invariant c.loop-x-test.true c.in_err-black.ensures)

pub loop-x-preserved : goal.loop-x-preserved
loop-x-preserved c = onward c.loop-x.invariant c.loop-x-test.true c.in_ok-black.ensures c.requires.1

pub returns : goal.returns
returns c = search at_end
