-- Ones from a place of a word on: what the laws of masks speak of.
use Rattle.std.specs.Prelude.{ℕ, ◌-◌, ◌*◌, ◌^◌}

-- n ones from place p on
abbrev pub mask : ℕ → ℕ → ℕ
mask n p = (2 ^ n - 1) * 2 ^ p
