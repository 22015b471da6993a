pub mod Below
pub mod Padding
pub mod AnyLaws
pub mod NumberLaws
