-- `Rank` has the definitions, `RankClauses` what the clauses of functions name, `RankLaws` what the ranking means. `Keys` has how it is computed.
pub mod Rank
pub mod RankClauses
pub mod RankLaws
pub mod Keys
