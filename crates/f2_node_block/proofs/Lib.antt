pub mod InodeLemmas
pub mod Pieces
pub mod Rows
