pub mod Nodes
pub mod Paged
pub mod Slots
pub mod Tables
