-- Packed layouts of directories.
pub mod Packed
