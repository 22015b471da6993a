-- `detector_candidate::search_from` meets its contract. That a window's centre and radius fit is a fact of the definition of the row search.
use Rattle.std.proofs.Common.{ℕ, ◌+◌, ◌^◌, ◌≤◌, ◌<◌, ◌≡◌, Some, None, arith}
use Rattle.reads.specs.Bits.{bit_at}
use Rattle.reads.proofs.RunsLaws.{on_ran}
use Rattle.bit_matrix.specs.declared.BitMatrix.{BitMatrix}
use Rattle.bit_matrix.specs.ImageClauses.{RanOn}
use Rattle.bit_matrix.proofs.ImageLaws.{on_is, on_done, on_bind, on_next}
use Rattle.detector_rows.specs.RowsClauses.{next_bullseye}
use Rattle.detector_first_window.specs.FirstWindowLaws.{Closed}
use Rattle.detector_rows.specs.RowsLaws.{closed_on}
use Rattle.detector_window.specs.declared.Bullseye.{Bullseye}
use Rattle.detector_columns.specs.Columns.{Verified}
use Rattle.detector_columns.specs.ColumnsClauses.{verify_bullseye_vertical}
use Rattle.detector_candidate.specs.Candidate.{nothing, judged, search_by}
use Rattle.detector_candidate.specs.CandidateClauses.{Searchable, search_from}
use Rattle.detector_candidate.specs.declared.Searched.{Searched}
use Rattle.detector_candidate.proofs.search_from.Goals as goal

module _ {image i₁ : BitMatrix} (row column : ℕ) where
  ends : RanOn (next_bullseye image.shape row column) image None i₁ → RanOn (search_from image.shape row column) image nothing i₁
  unfolding search_by
  ends run = on_bind _ run (on_done nothing)

  module _ {eye : Bullseye} (run : RanOn (next_bullseye image.shape row column) image (Some eye) i₁) where
    module _ (at : Searchable image.shape row column) where
      closed : Closed image.shape (bit_at image.words.now) row column eye
      closed = on_ran (closed_on image.shape row column (bit_at image.words.now)) run.ran

      -- the radius fits left of the centre
      radius_left : eye.radius ≤ eye.center
      radius_left = omega (arith, at.left, closed.after_start, closed.half)

      column_fits : (0 < eye.center) × (eye.center + 1 < 2 ^ 32)
      column_fits =
          (omega (arith, radius_left, closed.half, closed.eleven_pixels), omega (arith, image.is_image.limits.width_most, closed.before_limit))

      closing_fits : eye.center + eye.radius < 2 ^ 32
      closing_fits = omega (arith, image.is_image.limits.width_most, closed.before_limit)

    looked : {tried : Verified} {i₂ : BitMatrix} {s : Searched} → RanOn (verify_bullseye_vertical i₁.shape row eye.center) i₁ tried i₂
        → s ≡ judged row column eye tried → RanOn (search_from image.shape row column) image s i₂
    unfolding search_by
    looked look made = on_bind _ run (on_bind _ (on_next (λ shape. verify_bullseye_vertical shape row eye.center) run.kept look) (on_is made))

pub returns-in_default : goal.returns-in_default
returns-in_default c = ends _ _ c.in_default.ensures

pub verify_bullseye_vertical-requires : goal.verify_bullseye_vertical-requires
verify_bullseye_vertical-requires c = column_fits _ _ c.in-Some.ensures c.requires

pub bullseye_passed-requires : goal.bullseye_passed-requires
bullseye_passed-requires c = closing_fits _ _ c.in-Some.ensures c.requires

pub bullseye_failed-requires : goal.bullseye_failed-requires
bullseye_failed-requires c = radius_left _ _ c.in-Some.ensures c.requires

pub returns-in-Ok : goal.returns-in-Ok
returns-in-Ok c = looked _ _ c.in-Some.ensures c.in-Ok.ensures c.bullseye_passed.ensures

pub returns-in-Err : goal.returns-in-Err
returns-in-Err c = looked _ _ c.in-Some.ensures c.in-Err.ensures c.bullseye_failed.ensures
