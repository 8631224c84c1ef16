pub mod Blocks
pub mod Routes
pub mod Slots
pub mod Tree
