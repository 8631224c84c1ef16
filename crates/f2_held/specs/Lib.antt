-- The most that a tree which recovery may find takes.
pub mod Taken
pub mod Sums
pub mod Recovered
