-- The laws of the definitions in specs/: they rest on these, and an edit of a definition is refused at them. `Demand3` has the two of demand 3.
pub mod ReadsLaws
pub mod BitsLaws
pub mod OrderLaws
pub mod MasksLaws
pub mod RunsLaws
pub mod Demand3
