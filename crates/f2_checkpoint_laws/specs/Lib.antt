-- The events of a checkpoint, each by the changes that it makes.
pub mod Writing
pub mod Pending
pub mod Done
pub mod Ended
pub mod Going
pub mod Faults
