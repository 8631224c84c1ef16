-- Proofs of the laws of a checkpoint's events.
pub mod Writes
pub mod Tailed
pub mod NoLogs
pub mod Pendings
pub mod Nobody
pub mod Finished
pub mod Numbered
pub mod WholeAfter
pub mod TailsWhole
pub mod Gone
pub mod Closed
