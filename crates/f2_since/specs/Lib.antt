-- What is counted since a checkpoint, and when it is what a state has.
pub mod Counted
pub mod Events
pub mod Parting
