-- What holds of a window that the row search finds, on the image at hand, and that the search with the source's test of the widths is the same.
-- Assumes nothing.
use Rattle.std.proofs.Common.{ℕ, zero, suc, ◌+◌, ◌-◌, ◌^◌, ◌≤◌, arith, Bool, true, replicate}
use Rattle.reads.specs.Reads.{Reads}
use Rattle.reads.specs.ReadsLaws.{On, Always, Same}
use Rattle.reads.proofs.ReadsLaws.{on_always, on_bind, always_done, always_after, always_cond, same_refl, same_after}
use Rattle.bit_matrix.specs.declared.Shape.{Shape}
use Rattle.detector_widths.specs.WidthsF32.{valid_widths_f32}
use Rattle.detector_rows.specs.Rows.{skip_white, next_bullseye_by}
use Rattle.detector_rows.specs.RowsClauses.{next_bullseye}
use Rattle.detector_first_window.specs.ColouredLaws.{coloured_none}
use Rattle.detector_first_window.specs.FirstWindowLaws.{FoundWindow, counted_none, window_on, same_window}

module _ (shape : Shape) (row : ℕ) where
  always_skip : (n column : ℕ) → Always (λ first. column ≤ first) (skip_white shape row n column)
  unfolding skip_white
  always_skip zero column = always_after _ _ λ _. always_done (omega arith)
  always_skip (suc n) column =
      always_after _ _ λ black. always_cond black (λ _. always_done (omega arith))
      (λ _. later (always_skip n (column + 1)))
    where
      later : {p : Reads ℕ} → Always (λ first. column + 1 ≤ first) p → Always (λ first. column ≤ first) p
      later always = record { on = λ image. omega (arith, always.on image) }

-- A window found lies after the start and is closed before the limit, and on this image its runs begin and end with a black pixel.
pub closed_on : (shape : Shape) (row start : ℕ) (image : ℕ → Bool) → On image (FoundWindow shape image row start) (next_bullseye shape row start)
unfolding next_bullseye_by
closed_on shape row start image =
    on_bind image _ (on_always image (always_skip shape row (shape.width - 6 - start) start))
    λ first after. window_on shape row image (shape.width - 6 - first) first true 0 (replicate 11 0) (omega arith) (counted_none after) coloured_none

-- ---- with the source's test of the widths

-- The search with the source's f32 test has the results and the reads of the search with the whole-number one.
pub same_rows_f32 : (shape : Shape) (row start : ℕ) → shape.width ≤ 2 ^ 20
    → Same (next_bullseye_by valid_widths_f32 shape row start) (next_bullseye shape row start)
unfolding next_bullseye_by
same_rows_f32 shape row start narrow =
    same_after _ _ same_refl λ first.
    same_window shape row {start = first} (shape.width - 6 - first) first true 0 (replicate 11 0) narrow (omega arith) (counted_none (omega arith))
