-- How the code looks at a point: by how far it lies past the centre, which is the same at every degree, and worked out once. Assumes nothing.
use Rattle.std.specs.Prelude.{ℕ, List, Bool, Option, slice_index_or}
use Rattle.std.specs.Float.{nan, binary32}
use Rattle.std.specs.Float.Ieee.{add, sub, mul, to_unsigned}
use Rattle.reads.specs.Reads.{Reads}
use Rattle.bit_matrix.specs.declared.Shape.{Shape}
use Rattle.bit_matrix_area.specs.Area.{try_get_area}
use Rattle.ieee.specs.Sign.{abs}
use Rattle.sines.specs.declared.Angle.{Angle}
use Rattle.rxing_result_point.specs.declared.Point.{Point}

module _ (shape : Shape) (center : Point) where
  -- the area about the pixel in which the point so far past the centre lies when it is turned
  unfoldable pub look_past : Angle → Point → Reads (Option Bool)
  look_past angle offset =
      let sin = angle.sin in
      let cos = angle.cos in
      let u = offset.x in
      let v = offset.y in
      try_get_area shape
      (to_unsigned 32 (abs (add binary32 (sub binary32 (mul binary32 cos u) (mul binary32 sin v)) center.x)))
      (to_unsigned 32 (abs (add binary32 (add binary32 (mul binary32 sin u) (mul binary32 cos v)) center.y)))

  -- the look at point k, by the offsets of the eighteen
  abbrev pub look_offset : List Point → Angle → ℕ → Reads (Option Bool)
  look_offset offsets angle k = look_past angle (slice_index_or offsets k (record { x = nan; y = nan }))
