pub mod BitsOrder
pub mod Keyed
pub mod Placing
