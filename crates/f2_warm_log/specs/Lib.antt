-- The node log in memory.
pub mod Gaps
pub mod Link
pub mod Log
