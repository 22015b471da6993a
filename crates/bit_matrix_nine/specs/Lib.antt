pub mod AreaWords
