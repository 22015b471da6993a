-- `Walks` has the definitions, `WalksClauses` what the clauses of functions name. `StepsLaws`, `FarLaws` and `WalksLaws` say why a walk ends, `LengthLaws`
-- how soon, `Examples` what walks read.
pub mod Walks
pub mod WalksClauses
pub mod StepsLaws
pub mod FarLaws
pub mod WalksLaws
pub mod LengthLaws
pub mod Examples
