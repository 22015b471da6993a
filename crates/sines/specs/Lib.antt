-- `Sines` (over the data of `Table`) has the definitions; `Laws` the rules of the table and their proof, each by one computed test.
pub mod Table
pub mod Sines
pub mod Laws
