-- `Sqrt` defines what the contract cites. `CorrectlyRounded` says what a square root is. The others are laws that crates above cite.
pub mod Sqrt
pub mod CorrectlyRounded
pub mod IsqrtLaws
pub mod RootBetweenLaws
