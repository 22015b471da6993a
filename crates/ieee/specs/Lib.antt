-- `Sign`, `Integral`, `Units` and `Whole` define what the contracts cite beside `lib.Ieee`. The others are laws that crates above cite.
pub mod Sign
pub mod Integral
pub mod Units
pub mod Whole
pub mod RoundLaws
pub mod BetweenLaws
pub mod SizeLaws
