-- `FirstWindow` has the definition, `FirstWindowClauses` what the clauses of functions name, `TotalsLaws` what holds of sums of runs, `ColouredLaws` of
-- their colours, `FirstWindowLaws` what other crates cite.
pub mod FirstWindow
pub mod FirstWindowClauses
pub mod TotalsLaws
pub mod ColouredLaws
pub mod FirstWindowLaws
