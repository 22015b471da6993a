-- `detector_columns::try_column` meets its contract: the calls' runs, one after the other. The bound on the runs keeps the middle one in a u32.
use Rattle.std.proofs.Common.{ℕ, ◌≤◌, ◌≡◌, true, false, List, Ok, Err, arith}
use Rattle.reads.proofs.RunsLaws.{always_ran}
use Rattle.bit_matrix.specs.declared.BitMatrix.{BitMatrix}
use Rattle.bit_matrix.specs.ImageClauses.{RanOn}
use Rattle.bit_matrix.proofs.ImageLaws.{on_bind, on_is, on_next}
use Rattle.detector_widths.specs.Widths.{at, valid_widths}
use Rattle.detector_columns.specs.declared.Direction.{Direction}
use Rattle.detector_columns.specs.declared.Direction.TheVariants.{Up, Down}
use Rattle.detector_columns.specs.Columns.{column_vector, potential_bullseye_array, potential_bullseye, try_column_by}
use Rattle.detector_columns.specs.ColumnsClauses.{try_column}
use Rattle.detector_columns.specs.ColumnsLaws.{column_vector_le}
use Rattle.detector_columns.proofs.try_column.Goals as goal

module _ {image after : BitMatrix} {vector : List ℕ} (row column : ℕ) (direction : Direction) where
  first_run : RanOn (column_vector image.shape column row direction) image vector after → at vector 0 ≤ 2048
  first_run run =
      omega (arith, image.is_image.limits.height_most, (always_ran (column_vector_le image.shape column row direction) run.ran).run 0)

module _ {i₀ i₁ i₂ : BitMatrix} {up down : List ℕ} (row column : ℕ)
    (above : RanOn (column_vector i₀.shape column row Up) i₀ up i₁) (below : RanOn (column_vector i₁.shape column row Down) i₁ down i₂) where
  tried : {buckets : List ℕ} → buckets ≡ potential_bullseye_array down up → RanOn (potential_bullseye i₀.shape row column) i₀ buckets i₂
  unfolding potential_bullseye
  tried same = on_bind _ above (on_bind _ (on_next (λ shape. column_vector shape column row Down) above.kept below) (on_is same))

  module _ {buckets : List ℕ} (same : buckets ≡ potential_bullseye_array down up) where
    passes : true ≡ valid_widths buckets → RanOn (try_column i₀.shape row column) i₀ (Ok buckets) i₂
    unfolding try_column_by
    passes pass = on_bind _ (tried same) (on_is (rw (← pass)))

    fails : false ≡ valid_widths buckets → RanOn (try_column i₀.shape row column) i₀ (Err buckets) i₂
    unfolding try_column_by
    fails fail = on_bind _ (tried same) (on_is (rw (← fail)))

pub build_potential_bullsey_array-potential_bullseye-requires : goal.build_potential_bullsey_array-potential_bullseye-requires
build_potential_bullsey_array-potential_bullseye-requires c =
    omega (arith, first_run _ _ _ c.get_column_vector-up_vector.ensures, first_run _ _ _ c.get_column_vector-down_vector.ensures)

pub returns-then-validate_bullseye_widths : goal.returns-then-validate_bullseye_widths
returns-then-validate_bullseye_widths c =
    passes _ _ c.get_column_vector-up_vector.ensures c.get_column_vector-down_vector.ensures
    c.build_potential_bullsey_array-potential_bullseye.ensures c.if-validate_bullseye_widths.ensures

pub returns-else-validate_bullseye_widths : goal.returns-else-validate_bullseye_widths
returns-else-validate_bullseye_widths c =
    fails _ _ c.get_column_vector-up_vector.ensures c.get_column_vector-down_vector.ensures
    c.build_potential_bullsey_array-potential_bullseye.ensures c.if-validate_bullseye_widths.ensures
