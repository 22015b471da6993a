-- `Reads`, `Bits`, `Total` and `Runs` have the definitions, `RunsClauses` what the clauses of functions name, `ReadsLaws` and `MasksLaws` what laws
-- speak of. `EveryLaws` has a test that is computed for all numbers below a bound. The laws of these are in proofs/.
pub mod Reads
pub mod ReadsLaws
pub mod Bits
pub mod Total
pub mod MasksLaws
pub mod Runs
pub mod RunsClauses
pub mod EveryLaws
