-- How much of an image a tree takes.
pub mod Sizes
pub mod Parts
