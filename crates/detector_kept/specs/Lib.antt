-- `Spread`, `Retain` and `Kept` have the definitions, `KeptClauses` what the clauses of functions name. `KeptLaws` says what holds of the ranked records.
pub mod Spread
pub mod Retain
pub mod Kept
pub mod KeptClauses
pub mod KeptLaws
