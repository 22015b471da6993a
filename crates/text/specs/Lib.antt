-- `Text` has the definitions, `TextClauses` what the clauses of functions name, `TextLaws` what holds of text put into a buffer and of the length of a number.
pub mod Text
pub mod TextClauses
pub mod TextLaws
