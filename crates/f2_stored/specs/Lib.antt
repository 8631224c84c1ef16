-- What a running volume keeps on its disk.
pub mod Places
pub mod Trees
pub mod Layout
pub mod Bases
pub mod Logs
pub mod Numbers
pub mod Marks
pub mod Changes
pub mod Ties
pub mod Stored
pub mod Kept
pub mod Whole
