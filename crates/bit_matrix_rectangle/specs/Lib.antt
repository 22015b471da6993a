pub mod Rectangle
pub mod RectangleClauses
pub mod ExtremesLaws
pub mod RectangleLaws
