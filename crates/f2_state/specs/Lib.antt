-- What contracts see of a running volume, when it stands in a state of the machine, and how an event goes on from there.
pub mod Seen
pub mod Contents
pub mod Placed
pub mod Standing
pub mod Following
pub mod Barred
pub mod Looks
pub mod Flushing
pub mod Idling
