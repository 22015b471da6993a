pub mod Exchanging
pub mod Arranging
