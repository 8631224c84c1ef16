-- Lemmas on what a tree takes.
pub mod Keys
pub mod Names
pub mod Blocks
pub mod FoundRows
pub mod Parts
