pub mod SkipLaws
