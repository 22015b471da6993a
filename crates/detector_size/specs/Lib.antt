-- `Size` has the definitions, `SizeClauses` what the clauses of functions name, `SizeLaws` how large a size is.
pub mod Size
pub mod SizeClauses
pub mod SizeLaws
