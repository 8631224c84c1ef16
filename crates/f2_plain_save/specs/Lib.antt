-- Checkpoints that are written to a disk.
pub mod Blanks
pub mod Saves
pub mod Writing
