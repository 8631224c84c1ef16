-- What the lines of a script print, which events of the machine they make, and how a run ends.
pub mod Parts
pub mod Calls
pub mod Lines
pub mod Faults
pub mod Endings
pub mod Scripts
pub mod Due
