-- `Variance` has the definitions, `VarianceClauses` what the clauses of functions name. `NeverNaNLaws` proves that a variance is a number and not negative.
pub mod Variance
pub mod VarianceClauses
pub mod NeverNaNLaws
