-- What contracts see of a core, and what its events come to.
pub mod Seen
pub mod Writes
pub mod Found
pub mod Changes
pub mod Events
