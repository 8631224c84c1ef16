-- What a run of a command writes, how it ends, and what it leaves on its bench.
pub mod Left
pub mod Reads
pub mod Streams
pub mod Runs
pub mod Replay
pub mod Words
pub mod Making
pub mod Listing
