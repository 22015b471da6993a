-- `Records` has the definitions, `Fields` the places of a record's words, `RecordsClauses` what the clauses of functions name, `RecordsLaws` how reading,
-- replacing, clearing and laying out look on records, `CopiesLaws` the law of a loop that copies.
pub mod Fields
pub mod Records
pub mod RecordsClauses
pub mod RecordsLaws
pub mod CopiesLaws
