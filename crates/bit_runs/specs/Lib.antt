pub mod BitRuns
pub mod ChangesLaws
