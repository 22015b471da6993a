-- `Search` has the definitions, `SearchClauses` what the clauses of functions name, `SearchLaws` what the counts are by the answer.
pub mod Search
pub mod SearchClauses
pub mod SearchLaws
