pub mod Columns
pub mod Retaining
pub mod Composing
