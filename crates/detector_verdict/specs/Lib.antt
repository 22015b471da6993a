-- `Verdict` has the definitions, `VerdictClauses` what the clauses of functions name, `VerdictLaws` what the counts are by the answer.
pub mod Verdict
pub mod VerdictClauses
pub mod VerdictLaws
