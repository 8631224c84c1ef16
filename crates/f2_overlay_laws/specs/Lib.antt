-- What follows from a base and a node log that were read.
pub mod Sound
pub mod Rolled
pub mod Taken
