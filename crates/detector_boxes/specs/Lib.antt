-- `Boxing` has the definition, `BoxingClauses` what the clauses of functions name, `BoxingLaws` that no record is lost,
-- `ClassesLaws` that each has the class of its outcome.
pub mod Boxing
pub mod BoxingClauses
pub mod BoxingLaws
pub mod ClassesLaws
