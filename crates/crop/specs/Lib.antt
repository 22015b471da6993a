pub mod Crop
pub mod CropClauses
pub mod CropLaws
pub mod PrefixLaws
