-- A pixel as a point, a point turned about a centre, and a point's pixel, each operation rounded once. Definitions only. Assumes nothing.
use Rattle.std.specs.Prelude.{ℕ, pos, Float}
use Rattle.std.specs.Float.{binary32}
use Rattle.std.specs.Float.Ieee.{add, sub, mul, of_int, to_unsigned}
use Rattle.ieee.specs.Sign.{abs}
use Rattle.ieee.specs.Integral.{floor, round_ties_to_away}
use Rattle.sines.specs.Sines.{angle_of}
use Rattle.sines.specs.declared.Angle.{Angle}
use Rattle.rxing_result_point.specs.declared.Point.{Point}
use Rattle.rxing_result_point.specs.declared.PointU.{PointU}

-- a whole number as an f32
abbrev pub real : ℕ → Float
real n = of_int binary32 (pos n)

-- a pixel as a point
abbrev pub point_at : PointU → Point
point_at p = record { x = real p.x; y = real p.y }

-- how far a coordinate lies past the centre's
abbrev pub past : ℕ → ℕ → Float
past center n = sub binary32 (real n) (real center)

-- `original` turned about `center` by an angle, the sign of each coordinate cleared
unfoldable pub turned : PointU → PointU → Angle → Point
turned center original angle =
    let u = past center.x original.x in
    let v = past center.y original.y in
    let across = sub binary32 (mul binary32 angle.cos u) (mul binary32 angle.sin v) in
    let down = add binary32 (mul binary32 angle.sin u) (mul binary32 angle.cos v) in
    record { x = abs (add binary32 across (real center.x)); y = abs (add binary32 down (real center.y)) }

-- `get_point`: by whole degrees
abbrev pub get_point : PointU → PointU → ℕ → Point
get_point center original degree = turned center original (angle_of degree)

-- a coordinate by `round`, `floor` and the cast: halves away from zero, a NaN to 0
abbrev pub rounded_to : Float → ℕ
rounded_to x = to_unsigned 32 (floor binary32 (round_ties_to_away binary32 x))

-- `round` and the conversion to PointU
abbrev pub rounded : Point → PointU
rounded p = record { x = rounded_to p.x; y = rounded_to p.y }
