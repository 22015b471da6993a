-- `Rows` has the definitions, `RowsClauses` what the clauses of functions name, `RowsLaws` what other crates cite.
pub mod Rows
pub mod RowsClauses
pub mod RowsLaws
