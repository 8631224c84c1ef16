pub mod Chained
pub mod DrawnLemmas
pub mod Slots
pub mod Steps
