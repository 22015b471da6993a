-- How far each point lies past the centre is the same at every degree, and worked out once. Assumes nothing.
use Rattle.std.specs.Prelude.{◌≡◌, ℕ, ◌<◌, List, slice_index_or}
use Rattle.std.specs.Float.{nan, binary32}
use Rattle.std.specs.Float.Ieee.{sub}
use Rattle.rxing_result_point.specs.declared.Point.{Point}
use Rattle.rxing_result_point.specs.declared.PointU.{PointU}
use Rattle.rxing_result_point.specs.Points.{real}

-- how far a pixel lies past a centre
abbrev pub offset_past : Point → PointU → Point
offset_past center p = record { x = sub binary32 (real p.x) center.x; y = sub binary32 (real p.y) center.y }

-- entry k of the list is the offset of point k
pub record EachPoint (offset : ℕ → Point) (l : List Point) : Type 0 where
  pub each : (k : ℕ) → k < 18 → slice_index_or l k (record { x = nan; y = nan }) ≡ offset k
