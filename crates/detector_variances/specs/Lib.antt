-- `Variances` has the definitions, `VariancesClauses` what the clauses of functions name, `VariancesLaws` that the variance is a number.
pub mod Variances
pub mod VariancesClauses
pub mod VariancesLaws
