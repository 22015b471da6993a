-- `RowRuns` has the definitions.
pub mod RowRuns
