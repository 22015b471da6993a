-- Under abs, floor, round and the casts. `Numbers`, `Bounds` and `Units` serve the square root too, `Units` the walks.
pub mod Std
pub mod Numbers
pub mod Bounds
pub mod Units
pub mod Fields
pub mod Below
pub mod Small
