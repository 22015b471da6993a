-- `Boundary` has the definitions, `BoundaryClauses` what the clauses of functions name. `ShiftLaws` says how large a shift is, `InImageLaws` where
-- the boundaries
-- lie.
pub mod Boundary
pub mod BoundaryClauses
pub mod ShiftLaws
pub mod InImageLaws
