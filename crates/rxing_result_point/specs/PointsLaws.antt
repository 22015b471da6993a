-- A whole number up to 2 ^ 24 as an f32 is exact. Assumes nothing.
use Rattle.std.specs.Prelude.{ℕ, ◌^◌, ◌≤◌, false}
use Rattle.std.specs.Float.{binary32}
use Rattle.std.specs.Float.Ieee.{of_int}
use Rattle.std.specs.Float.Ieee.Exact.{HasValue}
use Rattle.std.specs.Float.Ieee.Back.{round_whole}
use Rattle.rxing_result_point.specs.Points.{real}

pub real_value : (n : ℕ) → n ≤ 2 ^ 24 → HasValue (real n) false n 1
unfolding of_int
real_value n h = round_whole binary32 false n h
