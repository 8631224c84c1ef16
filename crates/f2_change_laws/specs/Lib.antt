-- What changes of a disk keep.
pub mod Writing
pub mod Flushing
pub mod Drawing
pub mod Checkpointing
pub mod Crashing
pub mod Forgetting
