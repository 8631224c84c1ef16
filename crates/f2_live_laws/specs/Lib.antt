-- Laws of the live tree of a running volume.
pub mod Marking
pub mod Telling
pub mod Changing
