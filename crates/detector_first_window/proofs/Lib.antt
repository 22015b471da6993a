pub mod SweepLaws
pub mod Sweeping
