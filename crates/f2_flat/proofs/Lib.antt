-- Lemmas.
pub mod Values
pub mod Sums
pub mod Slots
pub mod Names
pub mod Trees
pub mod Told
pub mod FlatTrees
pub mod Binds
pub mod Leading
pub mod Grown
pub mod Written
pub mod Backs
pub mod Added
