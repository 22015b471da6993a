-- `Degrees` has the definitions, `SourceDegrees` the degrees as the source tries them, `DegreesLaws` which degrees are found and that both are the same,
-- `Offsets` how the code lists the points, `Examples` degrees tested on an image.
pub mod Degrees
pub mod SourceDegrees
pub mod DegreesLaws
pub mod Offsets
pub mod Examples
