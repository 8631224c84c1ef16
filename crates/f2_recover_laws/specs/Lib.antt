-- What follows from a base that was read.
pub mod Sound
