-- `Widths` has the definitions, `WidthsClauses` what private clauses name, and `Buckets` a run that grows. `WidthsF32` has the source's test, and
-- `SameTestLaws` and `SameWidthsLaws` say that the two are one, by `RoundedOrderLaws`.
pub mod Widths
pub mod WidthsF32
pub mod WidthsClauses
pub mod Buckets
pub mod RoundedOrderLaws
pub mod SameTestLaws
pub mod SameWidthsLaws
