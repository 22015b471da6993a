-- `Outcomes` has the definitions, `OutcomesLaws` what a bill goes by: the class beside its outcome.
pub mod Outcomes
pub mod OutcomesLaws
