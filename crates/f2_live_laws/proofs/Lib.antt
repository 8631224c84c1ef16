-- Proofs of the laws of the live tree.
pub mod InMemory
pub mod LongerLogs
pub mod Told
pub mod BaseTold
pub mod FilePages
pub mod Marked
