-- `Symbols` has the definitions, `SymbolsLaws` a record word by word.
pub mod Symbols
pub mod SymbolsLaws
