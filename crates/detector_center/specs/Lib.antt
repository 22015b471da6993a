pub mod Center
pub mod Examples
