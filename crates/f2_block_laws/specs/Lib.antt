-- Laws about the blocks of a tree.
pub mod Nodes
pub mod Directories
pub mod Whole
