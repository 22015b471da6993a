pub mod Sizes
pub mod SizesLaws
pub mod ChainLaws
pub mod Refusals
