-- `Scales` has the definitions, `SourceScales` a scale as the source tries it, `ScalesClauses` what the clauses of functions name, `ScalesLaws` what holds
-- of every turn and that both are the same.
pub mod Scales
pub mod SourceScales
pub mod ScalesClauses
pub mod ScalesLaws
