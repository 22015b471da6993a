-- `Colours` has the definitions, `Looks` how the code looks at a point.
pub mod Colours
pub mod Looks
