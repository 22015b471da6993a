-- `Corners` has the definitions.
pub mod Corners
