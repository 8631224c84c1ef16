-- Lemmas that several proofs share.
pub mod Empty
pub mod FlatTrees
pub mod Refusals
pub mod Grown
pub mod Runs
pub mod Steps
pub mod Held
pub mod Comes
pub mod Crashes
pub mod Made
pub mod Finding
pub mod Unchanged
pub mod Changed
pub mod Changing
pub mod Saved
pub mod Mounted
pub mod ComeTo
