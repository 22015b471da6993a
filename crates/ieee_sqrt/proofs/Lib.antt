-- Under the code: `Isqrt` to `Sqrt`. Its meaning: `Halfway` to `Meaning`.
pub mod Isqrt
pub mod Closest
pub mod Rounded
pub mod Halfway
pub mod Range
pub mod Sqrt
pub mod Meaning
