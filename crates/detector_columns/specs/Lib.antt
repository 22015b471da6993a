-- `Columns` has the definitions, `ColumnsClauses` what the clauses of functions name, `ColumnsLaws` what other crates cite, `Examples` what they give.
pub mod Columns
pub mod ColumnsClauses
pub mod ColumnsLaws
pub mod Examples
