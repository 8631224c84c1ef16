-- The events of a running volume but for calls and checkpoints, each by the changes that it makes.
pub mod Pages
pub mod Nodes
pub mod Marks
pub mod Acks
pub mod WholePages
pub mod WholeNodes
pub mod WholeMarks
pub mod WholeAcks
pub mod Flusher
pub mod Begins
pub mod Faults
