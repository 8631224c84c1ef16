pub mod Counts
pub mod Cuts
pub mod Indexed
pub mod Listed
pub mod Needed
pub mod Slots
pub mod Sorted
pub mod Tables
