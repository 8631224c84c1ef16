-- What makes a tree storable, and how few blocks a directory takes.
pub mod Parts
pub mod Blocks
