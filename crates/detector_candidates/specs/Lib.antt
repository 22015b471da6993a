-- `Candidates` has the definitions, `CandidatesClauses` what the clauses of functions name, `CandidatesLaws` what other crates cite.
pub mod Candidates
pub mod CandidatesClauses
pub mod CandidatesLaws
