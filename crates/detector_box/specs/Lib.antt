-- `Boxes` has the definitions, `BoxesClauses` what the clauses of functions name, `BoxesLaws` the words of each outcome, and what holds of every turn.
pub mod Boxes
pub mod BoxesClauses
pub mod BoxesLaws
