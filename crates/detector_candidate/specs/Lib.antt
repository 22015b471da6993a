-- `Candidate` has the definitions, `CandidateClauses` what the clauses of functions name, `CandidateLaws` what other crates cite.
pub mod Candidate
pub mod CandidateClauses
pub mod CandidateLaws
