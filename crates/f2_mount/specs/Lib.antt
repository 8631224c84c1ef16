-- Volumes on a disk.
pub mod Faults
pub mod Making
pub mod Recovering
