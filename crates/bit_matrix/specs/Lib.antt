pub mod Shape
pub mod ShapeClauses
pub mod ShapeLaws
pub mod Pixels
pub mod FlankedClauses
pub mod PixelsLaws
pub mod ImageClauses
pub mod Examples
