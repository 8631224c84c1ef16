-- Trees of files in the root alone, and what calls on them come to.
pub mod Flat
pub mod Calls
pub mod Kept
pub mod Steps
