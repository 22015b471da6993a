pub mod Unpack
pub mod UnpackClauses
pub mod UnpackLaws
pub mod FirstsLaws
pub mod Bytes
