-- Calls between the events of a running volume, and the flusher.
pub mod Calls
