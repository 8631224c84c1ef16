-- Lemmas that several proofs share.
pub mod Tables
pub mod Beginnings
pub mod Standing
pub mod PageReads
pub mod Unchanged
pub mod Ends
pub mod PartBytes
pub mod Counted
pub mod Serving
pub mod Advancing
pub mod Alone
pub mod Flushed
pub mod Going
pub mod OneFlush
pub mod Idle
